-- Where an answer comes from.
use Rattle.std.proofs.Common.{◌≡◌, Option, Some, None, refl, subst}
use Rattle.std.specs.Option.{option_map}
use Rattle.soqe_simp.specs.Shapes.{first_of}
use Rattle.soqe_simp.proofs.RowForms.{Some-is, none_of}

-- what is made of an answer that is there
pub mapped : {A B : Type 0} (P : B → Type 0) (k : A → B) (o : Option A) (b : B) → option_map k o ≡ Some b → ((a : A) → o ≡ Some a → P (k a)) → P b
mapped P k None b h f = none_of h
mapped P k (Some a) b h f = subst P (Some-is h) (f a refl)

-- the first answer, or the second
pub found_first : {A : Type 0} (P : A → Type 0) (o q : Option A) (a : A) → first_of o q ≡ Some a → (o ≡ Some a → P a) → (q ≡ Some a → P a) → P a
found_first P None q a h f g = g h
found_first P (Some b) q a h f g = f h
