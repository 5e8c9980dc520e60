use Rattle.std.proofs.Common.{◌∙◌, ap, sym}
use Rattle.soqe_syntax.specs.Pieces.{text_at}
use Rattle.soqe_syntax.specs.Shapes.{term_view, terms_view}
use Rattle.soqe_term.specs.declared.term.Terms.{Nil, Cons}
use Rattle.soqe_text.specs.Lookups.{found_by, known_at, names_of, places, symbol_by}
use Rattle.soqe_text.specs.Numbering.{applied_by, numbered_term_by, numbered_terms_by}
use Rattle.soqe_text.proofs.terms.+numbered_term.Goals as goal

pub numbered_term-returns-in_ok-args-in-Applied : goal.numbered_term-returns-in_ok-args-in-Applied
numbered_term-returns-in_ok-args-in-Applied n c =
    let bytes = c.args.bytes.now in
    let look = c.args.look.now in
    let vars = places c.args.vars.now in
    let name = text_at bytes c.in-Applied.name in
    c.applied-in-Applied.ensures
    ∙ (λ i. applied_by (symbol_by look (c.text-in-Applied.ensures i)) (known_at vars) (found_by look (c.text-in-Applied.ensures i)) (c.in_ok-args-in-Applied.ensures i))
    ∙ ap (λ ts. applied_by (symbol_by look name) (known_at vars) (found_by look name) (numbered_terms_by bytes (names_of look) vars (terms_view ts) Nil)) c.deref.ensures
    ∙ ap (λ t. numbered_term_by bytes (names_of look) vars (term_view t)) (sym c.in-Applied.is)

pub numbered_terms-returns-in_ok-in_front-in-One : goal.numbered_terms-returns-in_ok-in_front-in-One
numbered_terms-returns-in_ok-in_front-in-One n c =
    let bytes = c.args.bytes.now in
    let names = names_of c.args.look.now in
    let vars = places c.args.vars.now in
    c.in_ok-in_front-in-One.ensures
    ∙ ap (λ t. Cons t c.args.after) c.in_ok-first-in-One.ensures
    ∙ ap (λ t. Cons (numbered_term_by bytes names vars (term_view t)) c.args.after) c.deref.ensures
    ∙ ap (λ ts. numbered_terms_by bytes names vars (terms_view ts) c.args.after) (sym c.in-One.is)

pub numbered_terms-returns-in_ok-numbered_terms-in-More : goal.numbered_terms-returns-in_ok-numbered_terms-in-More
numbered_terms-returns-in_ok-numbered_terms-in-More n c =
    let bytes = c.args.bytes.now in
    let names = names_of c.args.look.now in
    let vars = places c.args.vars.now in
    let last = Cons (numbered_term_by bytes names vars (term_view c.in-More.term.value)) c.args.after in
    c.in_ok-numbered_terms-in-More.ensures
    ∙ ap (numbered_terms_by bytes names vars (terms_view c.deref-in-More-2.result.now))
    (c.in_ok-after-in-More.ensures
    ∙ ap (λ t. Cons t c.args.after) (c.in_ok-last-in-More.ensures ∙ ap (λ t. numbered_term_by bytes names vars (term_view t)) c.deref-in-More.ensures))
    ∙ ap (λ ts. numbered_terms_by bytes names vars (terms_view ts) last) c.deref-in-More-2.ensures
    ∙ ap (λ ts. numbered_terms_by bytes names vars (terms_view ts) c.args.after) (sym c.in-More.is)
