-- Terms with other numbers for their variables.
use Rattle.std.specs.Prelude.{ℕ, List, nat_eq}
use Rattle.std.specs.Map.{lookup}
use Rattle.std.specs.Option.{unwrap_or}
use Rattle.soqe_term.specs.declared.term.Var.{Var}
use Rattle.soqe_term.specs.declared.term.Term.{Term, Var as var, App}
use Rattle.soqe_term.specs.declared.term.Terms.{Terms, Nil, Cons, Cons', end_of-Term as end, more_of-Term as one, end_of-Terms as ends, more_of-Terms as ones}

-- the variable under another number
abbrev pub numbered : Var → ℕ → Var
numbered x n = record x { num = n }

abbrev mutual
  -- a term with the number that r gives for each variable
  pub renumbered : (ℕ → ℕ) → Term → Term
  renumbered r (var x) = var (numbered x (r x.num))
  renumbered r (App f s ts) = App f s (all_renumbered r ts)

  pub all_renumbered : (ℕ → ℕ) → Terms → Terms
  all_renumbered r Nil = Nil
  all_renumbered r (Cons' _ (one t end) _ (ones ts ends)) = Cons (renumbered r t) (all_renumbered r ts)

-- the number that a list of pairs gives for a number: its own where the list has none
unfoldable pub renames : List (ℕ × ℕ) → ℕ → ℕ
renames pairs n = unwrap_or (lookup (nat_eq n) pairs) n
