-- A test of whether two terms are equal.
use Rattle.std.specs.Prelude.{Bool, true, false, eqb, ◌&&◌}
use Rattle.soqe_term.specs.declared.term.Sym.{Sym}
use Rattle.soqe_term.specs.declared.term.Sym.TheVariants.{Fun, Skolem}
use Rattle.soqe_term.specs.declared.term.Term.{Term, Var as var, App}
use Rattle.soqe_term.specs.declared.term.Terms.{Terms, Nil, Cons', end_of-Term as end, more_of-Term as one, end_of-Terms as ends, more_of-Terms as ones}

-- the same kind of symbol with the same number
abbrev pub equal_symbols : Sym → Sym → Bool
equal_symbols (Fun m) (Fun n) = eqb m n
equal_symbols (Fun m) (Skolem n) = false
equal_symbols (Skolem m) (Fun n) = false
equal_symbols (Skolem m) (Skolem n) = eqb m n

abbrev mutual
  -- the same variable with the same sort, or the same symbol with the same sort and the same arguments
  pub equal_terms : Term → Term → Bool
  equal_terms (var x) (var y) = eqb x.num y.num && eqb x.sort y.sort
  equal_terms (var x) (App g n us) = false
  equal_terms (App f m ts) (var y) = false
  equal_terms (App f m ts) (App g n us) = equal_symbols f g && (eqb m n && equal_lists ts us)

  pub equal_lists : Terms → Terms → Bool
  equal_lists Nil Nil = true
  equal_lists Nil (Cons' _ (one u end) _ (ones us ends)) = false
  equal_lists (Cons' _ (one t end) _ (ones ts ends)) Nil = false
  equal_lists (Cons' _ (one t end) _ (ones ts ends)) (Cons' _ (one u end) _ (ones us ends)) = equal_terms t u && equal_lists ts us
