-- What folds by `&` and by `|` come to.
use Rattle.std.proofs.Common.{◌≡◌, Bool, true, false, ◌||◌, ◌&&◌, List, [], ◌∷◌, refl, ◌∙◌, ap}
use Rattle.std.specs.List.{list_any}
use Rattle.soqe_term.specs.declared.term.Var.{Var}
use Rattle.soqe_term.specs.World.{World}
use Rattle.soqe_term.specs.Sorting.{Sorting}
use Rattle.soqe_form.specs.declared.form.Pred.{Pred}
use Rattle.soqe_form.specs.declared.form.Form.{Form, And, Or}
use Rattle.soqe_form.specs.Boxes.{boxes}
use Rattle.soqe_form.specs.FreePreds.{has_free}
use Rattle.soqe_form.specs.Places.{has_blocks}
use Rattle.soqe_form.specs.Sorted.{sorted}
use Rattle.soqe_form.specs.Truth.{truth}
use Rattle.soqe_norm.specs.Folds.{or_after, any_of, and_after, all_of, exists_in, case_form}

-- some formula passes the test
abbrev pub any_passes : (Form → Bool) → List Form → Bool
any_passes h [] = false
any_passes h (f ∷ fs) = h f || any_passes h fs

-- each formula passes the test
abbrev pub all_pass : (Form → Bool) → List Form → Bool
all_pass h [] = true
all_pass h (f ∷ fs) = h f && all_pass h fs

pub or_nothing : (b : Bool) → b ≡ (b || false)
or_nothing true = refl
or_nothing false = refl

pub or_assoc : (a b c : Bool) → ((a || b) || c) ≡ (a || (b || c))
or_assoc true b c = refl
or_assoc false b c = refl

pub and_nothing : (b : Bool) → b ≡ (b && true)
and_nothing true = refl
and_nothing false = refl

pub and_assoc : (a b c : Bool) → ((a && b) && c) ≡ (a && (b && c))
and_assoc true b c = refl
and_assoc false b c = refl

any-or : (h : Form → Bool) → ((f g : Form) → h (Or f g) ≡ (h f || h g)) → (f : Form) (fs : List Form) → h (or_after f fs) ≡ (h f || any_passes h fs)
any-or h k f [] = or_nothing (h f)
any-or h k f (g ∷ gs) = any-or h k (Or f g) gs ∙ ap (λ b. b || any_passes h gs) (k f g) ∙ or_assoc (h f) (h g) (any_passes h gs)

pub any-and : (h : Form → Bool) → ((f g : Form) → h (And f g) ≡ (h f || h g)) → (f : Form) (fs : List Form) → h (and_after f fs) ≡ (h f || any_passes h fs)
any-and h k f [] = or_nothing (h f)
any-and h k f (g ∷ gs) = any-and h k (And f g) gs ∙ ap (λ b. b || any_passes h gs) (k f g) ∙ or_assoc (h f) (h g) (any_passes h gs)

all-and : (h : Form → Bool) → ((f g : Form) → h (And f g) ≡ (h f && h g)) → (f : Form) (fs : List Form) → h (and_after f fs) ≡ (h f && all_pass h fs)
all-and h k f [] = and_nothing (h f)
all-and h k f (g ∷ gs) = all-and h k (And f g) gs ∙ ap (λ b. b && all_pass h gs) (k f g) ∙ and_assoc (h f) (h g) (all_pass h gs)

all-or : (h : Form → Bool) → ((f g : Form) → h (Or f g) ≡ (h f && h g)) → (f : Form) (fs : List Form) → h (or_after f fs) ≡ (h f && all_pass h fs)
all-or h k f [] = and_nothing (h f)
all-or h k f (g ∷ gs) = all-or h k (Or f g) gs ∙ ap (λ b. b && all_pass h gs) (k f g) ∙ and_assoc (h f) (h g) (all_pass h gs)

pub truth-any : (w : World) (fs : List Form) → truth w (any_of fs) ≡ any_passes (truth w) fs
unfolding boxes
truth-any w [] = refl
truth-any w (f ∷ fs) = any-or (truth w) (λ f g. refl) f fs

pub truth-all : (w : World) (fs : List Form) → truth w (all_of fs) ≡ all_pass (truth w) fs
unfolding boxes
truth-all w [] = refl
truth-all w (f ∷ fs) = all-and (truth w) (λ f g. refl) f fs

pub sorted-any : (e : Sorting) (fs : List Form) → sorted e (any_of fs) ≡ all_pass (sorted e) fs
unfolding boxes
sorted-any e [] = refl
sorted-any e (f ∷ fs) = all-or (sorted e) (λ f g. refl) f fs

pub sorted-all : (e : Sorting) (fs : List Form) → sorted e (all_of fs) ≡ all_pass (sorted e) fs
unfolding boxes
sorted-all e [] = refl
sorted-all e (f ∷ fs) = all-and (sorted e) (λ f g. refl) f fs

pub has_free-any : (q : Pred) (fs : List Form) → has_free q (any_of fs) ≡ any_passes (has_free q) fs
unfolding boxes
has_free-any q [] = refl
has_free-any q (f ∷ fs) = any-or (has_free q) (λ f g. refl) f fs

pub has_free-all : (q : Pred) (fs : List Form) → has_free q (all_of fs) ≡ any_passes (has_free q) fs
unfolding boxes
has_free-all q [] = refl
has_free-all q (f ∷ fs) = any-and (has_free q) (λ f g. refl) f fs

pub any-listed : (h : Form → Bool) (fs : List Form) → any_passes h fs ≡ list_any h fs
any-listed h [] = refl
any-listed h (f ∷ fs) = ap (λ b. h f || b) (any-listed h fs)

pub has_blocks-any : (fs : List Form) → has_blocks (any_of fs) ≡ list_any has_blocks fs
unfolding boxes
has_blocks-any [] = refl
has_blocks-any (f ∷ fs) = any-or has_blocks (λ f g. refl) f fs ∙ any-listed has_blocks (f ∷ fs)

pub has_blocks-all : (fs : List Form) → has_blocks (all_of fs) ≡ list_any has_blocks fs
unfolding boxes
has_blocks-all [] = refl
has_blocks-all (f ∷ fs) = any-and has_blocks (λ f g. refl) f fs ∙ any-listed has_blocks (f ∷ fs)

pub has_blocks-exists : (vars : List Var) (f : Form) → has_blocks (exists_in vars f) ≡ has_blocks f
unfolding boxes
has_blocks-exists [] f = refl
has_blocks-exists (x ∷ vars) f = has_blocks-exists vars f

pub has_blocks-case : (vars : List Var) (fs : List Form) → has_blocks (case_form vars fs) ≡ list_any has_blocks fs
has_blocks-case vars fs = has_blocks-exists vars (all_of fs) ∙ has_blocks-all fs
