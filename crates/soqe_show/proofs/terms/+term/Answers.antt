use Rattle.std.proofs.Common.{◌++◌, string_bytes, ◌∙◌, ap, sym}
use Rattle.std.proofs.lemmas.Result.{on_ok_weaker}
use Rattle.soqe_term.specs.Boxes.{boxes}
use Rattle.soqe_show.specs.Dress.{sym_name, dress_term}
use Rattle.soqe_show.specs.Printed.{term_text}
use Rattle.soqe_show.proofs.Written.{joined}
use Rattle.soqe_show.proofs.Arguments.{applied_args}
use Rattle.soqe_show.proofs.terms.+term.Goals as goal

pub write_term-returns-in_ok-write_sym-in-App : goal.write_term-returns-in_ok-write_sym-in-App
unfolding boxes
write_term-returns-in_ok-write_sym-in-App t c =
    let start = string_bytes c.args.out.now in
    let ds = c.args.sig.now in
    on_ok_weaker c.write_args.result
    (λ written. joined _ _ _ c.in_ok-write_sym-in-App.ensures written
    ∙ ap (λ t. start ++ t) (sym (applied_args ds (sym_name ds c.in-App.symbol) c.in-App.args))
    ∙ ap (λ t. start ++ term_text (dress_term ds t)) (sym c.in-App.is))
    c.write_args.ensures
