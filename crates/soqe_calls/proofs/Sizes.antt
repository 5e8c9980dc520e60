-- How many nodes the measured formulas have, and those with new numbers.
use Rattle.std.proofs.Common.{◌≡◌, ℕ, zero, suc, ◌+◌, ◌*◌, ◌/◌, ◌%◌, List, refl, ◌∙◌, ap, arith}
use Rattle.soqe_form.specs.declared.form.Form.{Form, True, False, Equal, Atom, Not', And', Or', Imp', Iff', All', Ex', All2', Ex2', end_of-Form as end, more_of-Form as one}
use Rattle.soqe_form.specs.Boxes.{boxes}
use Rattle.soqe_number.specs.Updates.{changed}
use Rattle.std.specs.Prelude.{length, slice_index}
use Rattle.soqe_norm.specs.Apart.{binders, renumbered}
use Rattle.soqe_calls.specs.Nodes.{nodes}
use Rattle.soqe_calls.specs.Shapes.{wide, bound, negations, chain, negation_row, chain_row, rows}

one_part_more : (k n : ℕ) → n ≡ 10 * k + 1 → suc (n + 9) ≡ 10 * suc k + 1
one_part_more k n e = omega (arith, e)

one_more : (k n : ℕ) → n ≡ k + 1 → suc n ≡ suc k + 1
one_more k n e = omega (arith, e)

one_deeper : (k m n : ℕ) → n ≡ k + m → suc n ≡ suc k + m
one_deeper k m n e = omega (arith, e)

pub nodes-wide : (k : ℕ) → nodes (wide k) ≡ 10 * k + 1
unfolding boxes
nodes-wide zero = refl
nodes-wide (suc k) = one_part_more k (nodes (wide k)) (nodes-wide k)

pub nodes-bound : (k : ℕ) (f : Form) → nodes (bound k f) ≡ k + nodes f
unfolding boxes
nodes-bound zero f = omega arith
nodes-bound (suc k) f = one_deeper k (nodes f) (nodes (bound k f)) (nodes-bound k f)

pub nodes-negations : (k : ℕ) → nodes (negations k) ≡ k + 1
unfolding boxes
nodes-negations zero = refl
nodes-negations (suc k) = one_more k (nodes (negations k)) (nodes-negations k)

two_more : (k n : ℕ) → n ≡ 2 * k + 1 → suc (n + 1) ≡ 2 * suc k + 1
two_more k n e = omega (arith, e)

pub nodes-chain : (k : ℕ) → nodes (chain k) ≡ 2 * k + 1
unfolding boxes
nodes-chain zero = refl
nodes-chain (suc k) = two_more k (nodes (chain k)) (nodes-chain k)

nodes-negation-row : nodes negation_row ≡ 1999
unfolding negation_row
nodes-negation-row = nodes-negations 1998

nodes-chain-row : nodes chain_row ≡ 1999
unfolding chain_row
nodes-chain-row = nodes-chain 999

one_row_more : (k n m : ℕ) → n ≡ 2000 * k + m → suc (n + 1999) ≡ 2000 * suc k + m
one_row_more k n m e = omega (arith, e)

-- a row of 1,999 nodes and its sign are 2,000
pub nodes-rows : (k : ℕ) (row first : Form) → nodes row ≡ 1999 → nodes (rows k row first) ≡ 2000 * k + nodes first
unfolding boxes
nodes-rows zero row first e = omega arith
nodes-rows (suc k) row first e =
    ap (λ n. suc (nodes (rows k row first) + n)) e ∙ one_row_more k (nodes (rows k row first)) (nodes first) (nodes-rows k row first e)

rest_of_rows : (n m : ℕ) → m ≡ n % 2000 + 1 → 2000 * (n / 2000) + m ≡ n + 1
rest_of_rows n m e = omega (arith, e)

rest_of_chains : (n m : ℕ) → m ≡ 2 * (n % 2000 / 2) + 1 → 2000 * (n / 2000) + m ≡ 2 * (n / 2) + 1
rest_of_chains n m e = omega (arith, e)

pub nodes-negation-rows : (n : ℕ) → nodes (rows (n / 2000) negation_row (negations (n % 2000))) ≡ n + 1
nodes-negation-rows n =
    nodes-rows (n / 2000) negation_row (negations (n % 2000)) nodes-negation-row
    ∙ rest_of_rows n (nodes (negations (n % 2000))) (nodes-negations (n % 2000))

pub nodes-chain-rows : (n : ℕ) → nodes (rows (n / 2000) chain_row (chain (n % 2000 / 2))) ≡ 2 * (n / 2) + 1
nodes-chain-rows n =
    nodes-rows (n / 2000) chain_row (chain (n % 2000 / 2)) nodes-chain-row
    ∙ rest_of_chains n (nodes (chain (n % 2000 / 2))) (nodes-chain (n % 2000 / 2))

both : (a b c d : ℕ) → a ≡ c → b ≡ d → suc (a + b) ≡ suc (c + d)
both a b c d e h = λ i. suc (e i + h i)

-- new numbers leave the nodes
pub nodes-renumbered : (ns : List ℕ) (r : ℕ → ℕ) (at : ℕ) (f : Form) → nodes (renumbered ns r at f) ≡ nodes f
unfolding boxes
nodes-renumbered ns r at True = refl
nodes-renumbered ns r at False = refl
nodes-renumbered ns r at (Equal s t) = refl
nodes-renumbered ns r at (Atom p ts) = refl
nodes-renumbered ns r at (Not' _ (one f end)) = ap suc (nodes-renumbered ns r at f)
nodes-renumbered ns r at (And' _ (one f end) _ (one g end)) =
    both _ _ (nodes f) (nodes g) (nodes-renumbered ns r at f) (nodes-renumbered ns r (at + length (binders f)) g)
nodes-renumbered ns r at (Or' _ (one f end) _ (one g end)) =
    both _ _ (nodes f) (nodes g) (nodes-renumbered ns r at f) (nodes-renumbered ns r (at + length (binders f)) g)
nodes-renumbered ns r at (Imp' _ (one f end) _ (one g end)) =
    both _ _ (nodes f) (nodes g) (nodes-renumbered ns r at f) (nodes-renumbered ns r (at + length (binders f)) g)
nodes-renumbered ns r at (Iff' _ (one f end) _ (one g end)) =
    both _ _ (nodes f) (nodes g) (nodes-renumbered ns r at f) (nodes-renumbered ns r (at + length (binders f)) g)
nodes-renumbered ns r at (All' x _ (one f end)) = ap suc (nodes-renumbered ns (changed r x.num (slice_index ns at)) (suc at) f)
nodes-renumbered ns r at (Ex' x _ (one f end)) = ap suc (nodes-renumbered ns (changed r x.num (slice_index ns at)) (suc at) f)
nodes-renumbered ns r at (All2' p _ (one f end)) = ap suc (nodes-renumbered ns r at f)
nodes-renumbered ns r at (Ex2' p _ (one f end)) = ap suc (nodes-renumbered ns r at f)
