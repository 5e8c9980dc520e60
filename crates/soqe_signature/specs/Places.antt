-- Where the declarations of each numbering stand.
use Rattle.std.specs.Prelude.{ℕ, ◌+◌, cond, List, [], ◌∷◌, ◌++◌}
use Rattle.soqe_signature.specs.declared.kinds.NameKind.{NameKind}
use Rattle.soqe_signature.specs.declared.kinds.NameKind.TheVariants as numbering
use Rattle.soqe_signature.specs.Declarations.{Declaration, numbering_of, same_numbering}

-- for each numbering the places of its names among the declarations, in order
pub record PlaceLists : Type 0 where
  pub sorts : List ℕ
  pub funs : List ℕ
  pub preds : List ℕ
  pub variables : List ℕ
  pub bound_preds : List ℕ
  pub rels : List ℕ
  pub props : List ℕ

-- the places of one numbering
abbrev pub list_at : PlaceLists → NameKind → List ℕ
list_at p numbering.Sort = p.sorts
list_at p numbering.Fun = p.funs
list_at p numbering.Pred = p.preds
list_at p numbering.Variable = p.variables
list_at p numbering.BoundPred = p.bound_preds
list_at p numbering.Rel = p.rels
list_at p numbering.Prop = p.props

-- with one more place in one numbering
abbrev pub with_place : PlaceLists → NameKind → ℕ → PlaceLists
with_place p numbering.Sort n = record p { sorts = p.sorts ++ n ∷ [] }
with_place p numbering.Fun n = record p { funs = p.funs ++ n ∷ [] }
with_place p numbering.Pred n = record p { preds = p.preds ++ n ∷ [] }
with_place p numbering.Variable n = record p { variables = p.variables ++ n ∷ [] }
with_place p numbering.BoundPred n = record p { bound_preds = p.bound_preds ++ n ∷ [] }
with_place p numbering.Rel n = record p { rels = p.rels ++ n ∷ [] }
with_place p numbering.Prop n = record p { props = p.props ++ n ∷ [] }

-- no places
abbrev pub no_places : PlaceLists
no_places = record { sorts = []; funs = []; preds = []; variables = []; bound_preds = []; rels = []; props = [] }

-- the places of the declarations of one numbering, counted from n
abbrev pub places_from : NameKind → ℕ → List Declaration → List ℕ
places_from k n [] = []
places_from k n (d ∷ ds) = cond (same_numbering (numbering_of d.kind) k) (n ∷ places_from k (n + 1) ds) (places_from k (n + 1) ds)

-- the places of all declarations
abbrev pub places_of : List Declaration → PlaceLists
places_of ds = record {
  sorts = places_from numbering.Sort 0 ds;
  funs = places_from numbering.Fun 0 ds;
  preds = places_from numbering.Pred 0 ds;
  variables = places_from numbering.Variable 0 ds;
  bound_preds = places_from numbering.BoundPred 0 ds;
  rels = places_from numbering.Rel 0 ds;
  props = places_from numbering.Prop 0 ds;
}
