-- Arguments that are written from the first on have the text of the tree, which takes the last one last.
use Rattle.std.proofs.Common.{◌≡◌, ◌++◌, List, Some, None, codes, ◌∙◌, ap, sym, append-nil, append_assoc}
use Rattle.soqe_syntax.specs.Grammar as tree
use Rattle.soqe_term.specs.declared.term.Terms.{Terms, Nil, Cons', end_of-Term as end-t, more_of-Term as one-t, end_of-Terms as ends-t, more_of-Terms as ones-t}
use Rattle.soqe_signature.specs.Declarations.{Declaration}
use Rattle.soqe_show.specs.Printed.{Text, term_text, terms_text}
use Rattle.soqe_show.specs.Dress.{applied, dress_term, dress_terms_onto}
use Rattle.soqe_show.specs.Lines.{args_text, further_args_text}

-- a name with arguments, some of which stand before the others
further_args : (ds : List Declaration) (name : Text) (before : tree.Terms Text) (ts : Terms)
    → term_text (applied name (dress_terms_onto ds (Some before) ts)) ≡ name ++ codes "(" ++ (terms_text before ++ further_args_text ds ts) ++ codes ")"
further_args ds name before Nil = ap (λ t. name ++ codes "(" ++ t ++ codes ")") (sym (append-nil (terms_text before)))
further_args ds name before (Cons' _ (one-t t end-t) _ (ones-t ts ends-t)) =
    further_args ds name (tree.More before (dress_term ds t)) ts
    ∙ ap (λ t. name ++ codes "(" ++ t ++ codes ")") (regrouped (terms_text before) (codes ", ") (term_text (dress_term ds t)) (further_args_text ds ts))
  where
    regrouped : (a b c d : Text) → a ++ b ++ c ++ d ≡ a ++ (b ++ c ++ d)
    regrouped a b c d = simp append_assoc

-- a name with its arguments
pub applied_args : (ds : List Declaration) (name : Text) (ts : Terms)
    → term_text (applied name (dress_terms_onto ds None ts)) ≡ name ++ args_text ds ts
applied_args ds name Nil = sym (append-nil name)
applied_args ds name (Cons' _ (one-t t end-t) _ (ones-t ts ends-t)) =
    further_args ds name (tree.One (dress_term ds t)) ts
    ∙ regrouped name (codes "(") (term_text (dress_term ds t)) (further_args_text ds ts) (codes ")")
  where
    regrouped : (a b c d e : Text) → a ++ b ++ (c ++ d) ++ e ≡ a ++ (b ++ c ++ d ++ e)
    regrouped a b c d e = simp append_assoc
