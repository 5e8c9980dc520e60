-- The cases of a formula's split are the formula's cases; how they come about one after another.
use Rattle.std.proofs.Common.{◌≡◌, ℕ, suc, max, Bool, true, false, cond, ◌||◌, List, [], ◌∷◌, ◌++◌, map, refl, sym, ◌∙◌, ap, append_assoc}
use Rattle.std.proofs.lemmas.List.{append-nil, map-append}
use Rattle.soqe_term.specs.declared.term.Var.{Var}
use Rattle.soqe_form.specs.declared.form.Pred.{Pred}
use Rattle.soqe_form.specs.declared.form.Form.{Form, True, False, Equal, Atom, Not, Not', And, And', Or, Or', Imp, Imp', Iff, Iff', All, All', Ex, Ex', All2, All2', Ex2, Ex2', end_of-Form as end, more_of-Form as one}
use Rattle.soqe_form.specs.Boxes.{boxes}
use Rattle.soqe_form.specs.FreePreds.{has_free}
use Rattle.soqe_norm.specs.declared.case_list.Case.{Case}
use Rattle.soqe_norm.specs.declared.splits.Split.{Split, Whole, Both, Both', Either, Either', Below, Below', end_of-Split as end-s, more_of-Split as one-s}
use Rattle.soqe_norm.specs.SplitBoxes.{split_boxes}
use Rattle.soqe_norm.specs.Cases.{whole, both, pairings, below, cases_of}
use Rattle.soqe_norm.specs.Splits.{Seen, Lacking, Falls, cases_in, cases_seen, in_two, undivided, below_it, split_cases}

-- ---- what is seen of a formula

abbrev has_cases : Seen → Bool
has_cases (Lacking f) = false
has_cases (Falls cs) = true

-- where the predicate is lacking, it is the formula itself
abbrev IsWhole : Form → Seen → Type 0
IsWhole f (Lacking g) = g ≡ f
IsWhole f (Falls cs) = Unit {0}

-- what is seen has cases where the predicate is there, its cases are these, and its formula is this
record Sees (there : Bool) (cs : List Case) (f : Form) (u : Seen) : Type 0 where
  has : has_cases u ≡ there
  are : cases_seen u ≡ cs
  same : IsWhole f u

sees-lacking : (f : Form) → Sees false (whole f) f (Lacking f)
sees-lacking f = record { has = refl; are = refl; same = refl }

sees-choice : (f : Form) (b : Bool) → Sees b (whole f) f (cond b (Falls (whole f)) (Lacking f))
sees-choice f true = record { has = refl; are = refl; same = tt }
sees-choice f false = record { has = refl; are = refl; same = refl }

sees-undivided : (q : Pred) (f : Form) → Sees (has_free q f) (whole f) f (undivided q f)
sees-undivided q f = sees-choice f (has_free q f)

sees-two : (make : Form → Form → Form) (op : List Case → List Case → List Case) {h k : Bool} {bs cs : List Case} {f g : Form} (u v : Seen) → Sees h bs f u → Sees k cs g v
    → Sees (h || k) (cond (h || k) (op bs cs) (whole (make f g))) (make f g) (in_two make op u v)
sees-two make op {h} {k} {bs} {cs} {f} {g} (Lacking a) (Lacking b) s t = record {
  has = λ i. s.has i || t.has i;
  are = (λ i. whole (make (s.same i) (t.same i))) ∙ (λ i. cond (s.has i || t.has i) (op bs cs) (whole (make f g)));
  same = λ i. make (s.same i) (t.same i);
}
sees-two make op {h} {k} {bs} {cs} {f} {g} (Lacking a) (Falls ds) s t = record {
  has = λ i. s.has i || t.has i;
  are = (λ i. op (s.are i) (t.are i)) ∙ (λ i. cond (s.has i || t.has i) (op bs cs) (whole (make f g)));
  same = tt;
}
sees-two make op {h} {k} {bs} {cs} {f} {g} (Falls ds) v s t = record {
  has = λ i. s.has i || t.has i;
  are = (λ i. op (s.are i) (t.are i)) ∙ (λ i. cond (s.has i || t.has i) (op bs cs) (whole (make f g)));
  same = tt;
}

sees-below : (x : Var) {h : Bool} {cs : List Case} {f : Form} (u : Seen) → Sees h cs f u → Sees h (cond h (map (below x) cs) (whole (Ex x f))) (Ex x f) (below_it x u)
sees-below x {h} {cs} {f} (Lacking a) s = record {
  has = s.has;
  are = (λ i. whole (Ex x (s.same i))) ∙ (λ i. cond (s.has i) (map (below x) cs) (whole (Ex x f)));
  same = λ i. Ex x (s.same i);
}
sees-below x {h} {cs} {f} (Falls ds) s = record {
  has = s.has;
  are = ap (map (below x)) s.are ∙ (λ i. cond (s.has i) (map (below x) cs) (whole (Ex x f)));
  same = tt;
}

sees : (q : Pred) (f : Form) → Sees (has_free q f) (cases_of q f) f (split_cases q f)
unfolding boxes
sees q True = sees-lacking True
sees q False = sees-lacking False
sees q (Equal s t) = sees-lacking (Equal s t)
sees q (Atom p ts) = sees-undivided q (Atom p ts)
sees q (Not' _ (one f end)) = sees-undivided q (Not f)
sees q (And' _ (one f end) _ (one g end)) = sees-two And pairings (split_cases q f) (split_cases q g) (sees q f) (sees q g)
sees q (Or' _ (one f end) _ (one g end)) = sees-two Or (λ bs cs. bs ++ cs) (split_cases q f) (split_cases q g) (sees q f) (sees q g)
sees q (Imp' _ (one f end) _ (one g end)) = sees-undivided q (Imp f g)
sees q (Iff' _ (one f end) _ (one g end)) = sees-undivided q (Iff f g)
sees q (All' x _ (one f end)) = sees-undivided q (All x f)
sees q (Ex' x _ (one f end)) = sees-below x (split_cases q f) (sees q f)
sees q (All2' p _ (one f end)) = sees-undivided q (All2 p f)
sees q (Ex2' p _ (one f end)) = sees-undivided q (Ex2 p f)

-- what is seen of a formula has its cases
pub cases-seen : (q : Pred) (f : Form) (u v : Seen) → u ≡ split_cases q f → u ≡ v → cases_seen v ≡ cases_of q f
cases-seen q f u v h e = ap cases_seen (sym e ∙ h) ∙ (sees q f).are

-- a formula that is no conjunction, no disjunction and not existential isn't split
pub not-split : (q : Pred) (f : Form) → ((g h : Form) → f ≡ And g h → ⊥) → ((g h : Form) → f ≡ Or g h → ⊥) → ((x : Var) (g : Form) → f ≡ Ex x g → ⊥)
    → undivided q f ≡ split_cases q f
unfolding boxes
not-split q True a o e = refl
not-split q False a o e = refl
not-split q (Equal s t) a o e = refl
not-split q (Atom p ts) a o e = refl
not-split q (Not' _ (one f end)) a o e = refl
not-split q (And' _ (one f end) _ (one g end)) a o e = absurd (a f g refl)
not-split q (Or' _ (one f end) _ (one g end)) a o e = absurd (o f g refl)
not-split q (Imp' _ (one f end) _ (one g end)) a o e = refl
not-split q (Iff' _ (one f end) _ (one g end)) a o e = refl
not-split q (All' x _ (one f end)) a o e = refl
not-split q (Ex' x _ (one f end)) a o e = absurd (e x f refl)
not-split q (All2' p _ (one f end)) a o e = refl
not-split q (Ex2' p _ (one f end)) a o e = refl

-- ---- cases behind a case

-- three cases together
pub both-assoc : (b c d : Case) → both (both b c) d ≡ both b (both c d)
both-assoc b c d = λ i. record { vars = append_assoc b.vars c.vars d.vars i; conj = append_assoc b.conj c.conj d.conj i }

map-both : (b c : Case) (ds : List Case) → map (both (both b c)) ds ≡ map (both b) (map (both c) ds)
map-both b c [] = refl
map-both b c (d ∷ ds) = λ i. both-assoc b c d i ∷ map-both b c ds i

-- a case in front of pairings is in front of their first parts
pub pairings-behind : (b : Case) (cs ds : List Case) → pairings (map (both b) cs) ds ≡ map (both b) (pairings cs ds)
pairings-behind b [] ds = refl
pairings-behind b (c ∷ cs) ds =
    (λ i. map-both b c ds i ++ pairings-behind b cs ds i) ∙ sym (map-append (both b) (map (both c) ds) (pairings cs ds))

-- a case with one more variable
abbrev pub and_variable : Case → Var → Case
and_variable b x = record { vars = b.vars ++ x ∷ []; conj = b.conj }

pub below-behind : (b : Case) (x : Var) (cs : List Case) → map (both (and_variable b x)) cs ≡ map (both b) (map (below x) cs)
below-behind b x [] = refl
below-behind b x (c ∷ cs) = λ i. record { vars = append_assoc b.vars (x ∷ []) c.vars i; conj = b.conj ++ c.conj } ∷ below-behind b x cs i

pub none-in_front : (cs : List Case) → map (both (record { vars = []; conj = [] })) cs ≡ cs
none-in_front [] = refl
none-in_front (c ∷ cs) = ap (λ ds. c ∷ ds) (none-in_front cs)

pub pairings-push : (cs : List Case) (c : Case) (ds : List Case) → pairings (cs ++ c ∷ []) ds ≡ pairings cs ds ++ map (both c) ds
pairings-push [] c ds = append-nil (map (both c) ds)
pairings-push (b ∷ cs) c ds = ap (λ l. map (both b) ds ++ l) (pairings-push cs c ds) ∙ sym (append_assoc (map (both b) ds) (pairings cs ds) (map (both c) ds))

-- ---- the steps of the walk over a split

abbrev pub split_depth : Split → ℕ
split_depth (Whole f) = 0
split_depth (Both' _ (one-s s end-s) _ (one-s t end-s)) = suc (max (split_depth s) (split_depth t))
split_depth (Either' _ (one-s s end-s) _ (one-s t end-s)) = suc (max (split_depth s) (split_depth t))
split_depth (Below' x _ (one-s s end-s)) = suc (split_depth s)

pub depth-both : (split s t : Split) → split ≡ Both s t → split_depth split ≡ suc (max (split_depth s) (split_depth t))
unfolding split_boxes
depth-both split s t is = ap split_depth is

pub depth-either : (split s t : Split) → split ≡ Either s t → split_depth split ≡ suc (max (split_depth s) (split_depth t))
unfolding split_boxes
depth-either split s t is = ap split_depth is

pub depth-below : (split s : Split) (x : Var) → split ≡ Below x s → split_depth split ≡ suc (split_depth s)
unfolding split_boxes
depth-below split s x is = ap split_depth is

pub spread-both : (b : Case) (split s t : Split) (empty lefts : List Case) → split ≡ Both s t → empty ≡ [] → lefts ≡ empty ++ map (both b) (cases_in s)
    → pairings lefts (cases_in t) ≡ map (both b) (cases_in split)
unfolding split_boxes
spread-both b split s t empty lefts is e l =
    ap (λ ls. pairings ls (cases_in t)) (l ∙ (λ i. e i ++ map (both b) (cases_in s)))
    ∙ pairings-behind b (cases_in s) (cases_in t)
    ∙ ap (λ r. map (both b) (cases_in r)) (sym is)

pub spread-either : (b copy : Case) (split s t : Split) (before between : List Case) → split ≡ Either s t → copy ≡ b
    → between ≡ before ++ map (both copy) (cases_in s) → between ++ map (both b) (cases_in t) ≡ before ++ map (both b) (cases_in split)
unfolding split_boxes
spread-either b copy split s t before between is e l =
    (λ i. (l i) ++ map (both b) (cases_in t))
    ∙ (λ i. before ++ map (both (e i)) (cases_in s) ++ map (both b) (cases_in t))
    ∙ append_assoc before (map (both b) (cases_in s)) (map (both b) (cases_in t))
    ∙ ap (λ l. before ++ l) (sym (map-append (both b) (cases_in s) (cases_in t)))
    ∙ ap (λ r. before ++ map (both b) (cases_in r)) (sym is)

pub spread-below : (b more : Case) (x : Var) (split s : Split) → split ≡ Below x s → more ≡ and_variable b x → map (both more) (cases_in s) ≡ map (both b) (cases_in split)
unfolding split_boxes
spread-below b more x split s is e =
    (λ i. map (both (e i)) (cases_in s)) ∙ below-behind b x (cases_in s) ∙ ap (λ r. map (both b) (cases_in r)) (sym is)

-- the cases behind all but the last, and behind the last
pub spread-last : (cs front : List Case) (last : Case) (ds before between : List Case) → cs ≡ front ++ last ∷ [] → between ≡ before ++ pairings front ds
    → between ++ map (both last) ds ≡ before ++ pairings cs ds
spread-last cs front last ds before between is l =
    (λ i. l i ++ map (both last) ds)
    ∙ append_assoc before (pairings front ds) (map (both last) ds)
    ∙ ap (λ l. before ++ l) (sym (pairings-push front last ds) ∙ ap (λ cs. pairings cs ds) (sym is))
