-- A block without a value has a place for each sign.
use Rattle.std.proofs.Common.{◌≡◌, ℕ, true, Option, Some, None, refl, ◌∙◌, ap}
use Rattle.std.specs.Prelude.{is_some}
use Rattle.soqe_form.specs.declared.form.Form.{Form}
use Rattle.soqe_form.specs.declared.form.Pred.TheVariants.{Bound}
use Rattle.soqe_form.specs.declared.form.Block.{Block}
use Rattle.soqe_norm.specs.Valued.{value_for, first_pos, first_neg}
use Rattle.soqe_norm.specs.Passes.{capped}
use Rattle.soqe_norm.proofs.Blocks.{mixed-has-both}

still-some : (o : Option ℕ) → is_some (capped o) ≡ is_some o
still-some None = refl
still-some (Some n) = refl

pub some-pos : (b : Block) (f : Form) (o : Option ℕ) → value_for b ≡ None → o ≡ capped (first_pos (Bound b.pred.num) f) → f ≡ b.body → is_some o ≡ true
some-pos b f o h k e = ap is_some (k ∙ ap (λ f. capped (first_pos (Bound b.pred.num) f)) e) ∙ still-some (first_pos (Bound b.pred.num) b.body) ∙ (mixed-has-both b h).0

pub some-neg : (b : Block) (f : Form) (o : Option ℕ) → value_for b ≡ None → o ≡ capped (first_neg (Bound b.pred.num) f) → f ≡ b.body → is_some o ≡ true
some-neg b f o h k e = ap is_some (k ∙ ap (λ f. capped (first_neg (Bound b.pred.num) f)) e) ∙ still-some (first_neg (Bound b.pred.num) b.body) ∙ (mixed-has-both b h).1
