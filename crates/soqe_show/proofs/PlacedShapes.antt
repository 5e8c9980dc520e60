-- A printed tree falls into the pieces that it is spelled with.
use Rattle.std.proofs.Common.{◌≡◌, ℕ, ◌+◌, ◌≤◌, Bool, true, List, [], ◌∷◌, ◌++◌, length, get_or, Option, Some, None, codes, refl, sym, ap, subst, append_assoc, append-nil, arith}
use Rattle.soqe_syntax.specs.declared.piece.Operator.{Operator}
use Rattle.soqe_syntax.specs.declared.piece.Operator.TheVariants.{And, Or, Imp, Iff}
use Rattle.soqe_syntax.specs.declared.piece.Head.TheVariants as head
use Rattle.soqe_syntax.specs.declared.piece.Piece.{Piece}
use Rattle.soqe_syntax.specs.declared.piece.Piece.TheVariants as piece
use Rattle.soqe_syntax.specs.Grammar.{Term, Plain, Applied, Terms, One, More, Tree, Constant, Atom, Equation, Not, Bind, Bind2, Binary, Paren, level, left, right, IsLevelled, spell_sort, spell_further, spell_sorts, spell_term, spell_terms, spell, Declared, DeclaredSort, DeclaredFun, DeclaredPred, DeclaredVar, spell_declared, spell_all_declared, Problem}
use Rattle.soqe_syntax.specs.Pieces.{HasProblem}
use Rattle.soqe_parse.specs.Formulas.{HasForm}
use Rattle.soqe_show.specs.Printed.{Text, term_text, terms_text, operator_text, sort_text, further_text, sorts_text, tree_text, declared_text, all_declared_text, problem_tree_text}
use Rattle.soqe_show.specs.Placed.{behind, place, placed_term, placed_terms, placed_sort, placed_further, placed_sorts, placed, placed_declared, placed_all_declared, placed_problem, IsWord, equation_sign, AreWords_term, AreWords_terms, AreWords_sort, AreWords_sorts, AreWords, AreWords_declared, AreWords_all_declared, AreWords_problem}
use Rattle.soqe_show.proofs.PlacedLexing.{Reads, reads-end, ends_word, any, Writes, blank-writes, nothing-writes, join, next, as_pieces, before}
use Rattle.soqe_show.proofs.PlacedSigns.{name-writes, constant-writes, quantifier-writes, quantifier2-writes, sort-writes, fun-writes, pred-writes, var-writes, goal-writes, open-writes, close-writes, tilde-writes, comma-writes, dot-writes, semicolon-writes, colon-writes, colon-before, equals-writes, operator-writes}

-- ---- terms and sorts

mutual
  pub term-writes : (t : Term Text) → AreWords_term t → Writes ends_word (term_text t) (λ at. spell_term (placed_term at t))
  term-writes (Plain x) w = name-writes x w
  term-writes (Applied x ts) w =
      let opened = join (λ rest h. refl) (name-writes x w.0) open-writes in
      before ends_word (join (λ rest h. refl) (next opened (terms-writes ts w.1)) close-writes)

  pub terms-writes : (ts : Terms Text) → AreWords_terms ts → Writes ends_word (terms_text ts) (λ at. spell_terms (placed_terms at ts))
  terms-writes (One t) w = term-writes t w
  terms-writes (More ts t) w =
      as_pieces (λ at. append_assoc (spell_terms (placed_terms at ts)) (piece.Comma ∷ []) (spell_term (placed_term (behind at (terms_text ts ++ codes ", ")) t)))
      (next (join (λ rest h. refl) (terms-writes ts w.0) comma-writes) (term-writes t w.1))

-- a sort behind a colon
colon-sort : (s : Text) → IsWord s → Writes ends_word (codes ":" ++ s) (λ at. piece.Colon ∷ piece.Name (place (behind at (codes ":")) s) ∷ [])
colon-sort s w = join (λ rest h. colon-before s w rest) colon-writes (name-writes s w)

sort-written : (s : Option Text) → AreWords_sort s → Writes ends_word (sort_text s) (λ at. spell_sort (placed_sort at s))
sort-written None w = nothing-writes ends_word
sort-written (Some s) w = colon-sort s w

before-sort : (s : Option Text) (rest : List ℕ) → ends_word (get_or rest 0 0) ≡ true → ends_word (get_or (sort_text s ++ rest) 0 0) ≡ true
before-sort None rest h = h
before-sort (Some s) rest h = refl

before-further : (ss : List Text) (rest : List ℕ) → ends_word (get_or rest 0 0) ≡ true → ends_word (get_or (further_text ss ++ rest) 0 0) ≡ true
before-further [] rest h = h
before-further (s ∷ ss) rest h = refl

further-writes : (ss : List Text) → AreWords_sorts ss → Writes ends_word (further_text ss) (λ at. spell_further (placed_further at ss))
further-writes [] w = nothing-writes ends_word
further-writes (s ∷ ss) w = join (before-further ss) (next comma-writes (name-writes s w.0)) (further-writes ss w.1)

pub sorts-writes : (ss : List Text) → AreWords_sorts ss → Writes ends_word (sorts_text ss) (λ at. spell_sorts (placed_sorts at ss))
sorts-writes [] w = nothing-writes ends_word
sorts-writes (s ∷ ss) w =
    let listed = join (before-further ss) (next open-writes (name-writes s w.0)) (further-writes ss w.1) in
    before ends_word (join (λ rest h. refl) listed close-writes)

before-sorts : (ss : List Text) (rest : List ℕ) → ends_word (get_or rest 0 0) ≡ true → ends_word (get_or (sorts_text ss ++ rest) 0 0) ≡ true
before-sorts [] rest h = h
before-sorts (s ∷ ss) rest h = refl

-- ---- formulas

sides : (l r : List Piece) (sign : Piece) → (((l ++ []) ++ sign ∷ []) ++ []) ++ r ≡ l ++ sign ∷ r
sides l r sign = simp (append_assoc, append-nil)

equation-writes : (l r : Term Text) (b : Bool) (sign : Text) → sign ≡ equation_sign b → AreWords_term l → AreWords_term r
    → Writes ends_word (tree_text (Equation b sign l r)) (λ at. spell (placed at (Equation b sign l r)))
equation-writes l r b sign e v w =
    let signed = next (join (λ rest h. refl) (term-writes l v) (blank-writes 32 refl)) (equals-writes b) in
    let opened = join (λ rest h. refl) signed (blank-writes 32 refl) in
    subst (λ (x : Text). Writes ends_word (tree_text (Equation b x l r)) (λ at. spell (placed at (Equation b x l r)))) (sym e)
    (as_pieces (λ at. sides _ _ _) (next opened (term-writes r w)))

before-operator : (op : Operator) (rest : List ℕ) → any (get_or rest 0 0) ≡ true → ends_word (get_or (operator_text op ++ rest) 0 0) ≡ true
before-operator And rest h = refl
before-operator Or rest h = refl
before-operator Imp rest h = refl
before-operator Iff rest h = refl

pub tree-writes : (t : Tree Text) → AreWords t → Writes ends_word (tree_text t) (λ at. spell (placed at t))
tree-writes (Constant b) w = constant-writes b
tree-writes (Atom t) w = term-writes t w
tree-writes (Equation b sign l r) w = equation-writes l r b sign w.0 w.1 w.2
tree-writes (Not a) w = next tilde-writes (tree-writes a w)
tree-writes (Bind q x s a) w =
    let bound = join (before-sort s) (next (quantifier-writes q) (name-writes x w.0)) (sort-written s w.1) in
    next (join (λ rest h. refl) bound dot-writes) (tree-writes a w.2)
tree-writes (Bind2 q x ss a) w =
    let bound = join (before-sorts ss) (next (quantifier2-writes q) (name-writes x w.0)) (sorts-writes ss w.1) in
    next (join (λ rest h. refl) bound dot-writes) (tree-writes a w.2)
tree-writes (Binary op l r) w =
    as_pieces (λ at. append_assoc (spell (placed at l)) (piece.Sign op ∷ []) (spell (placed (behind at (tree_text l ++ operator_text op)) r)))
    (next (join (before-operator op) (tree-writes l w.0) (operator-writes op)) (tree-writes r w.1))
tree-writes (Paren a) w = before ends_word (join (λ rest h. refl) (next open-writes (tree-writes a w)) close-writes)

-- ---- declarations and problems

behind-sorts : (ss : List Piece) (a b c : Piece) → ((ss ++ a ∷ []) ++ b ∷ []) ++ c ∷ [] ≡ ss ++ a ∷ b ∷ c ∷ []
behind-sorts ss a b c = simp append_assoc

pub declared-writes : (d : Declared Text) → AreWords_declared d → Writes any (declared_text d) (λ at. spell_declared (placed_declared at d))
declared-writes (DeclaredSort s) w = join (λ rest h. refl) (next sort-writes (name-writes s w)) semicolon-writes
declared-writes (DeclaredFun f ss r) w =
    let named = join (before-sorts ss) (next fun-writes (name-writes f w.0)) (sorts-writes ss w.1) in
    let sorted = join (λ rest h. colon-before r w.2 rest) (join (λ rest h. refl) named colon-writes) (name-writes r w.2) in
    as_pieces (λ at. ap (λ (ps : List Piece). piece.Begin head.Fun ∷ piece.Name (place (behind at (codes "fun ")) f) ∷ ps) (behind-sorts _ _ _ _))
    (join (λ rest h. refl) sorted semicolon-writes)
declared-writes (DeclaredPred p ss) w =
    let named = join (before-sorts ss) (next pred-writes (name-writes p w.0)) (sorts-writes ss w.1) in
    join (λ rest h. refl) named semicolon-writes
declared-writes (DeclaredVar x s) w =
    let named = next var-writes (name-writes x w.0) in
    let sorted = join (λ rest h. colon-before s w.1 rest) (join (λ rest h. refl) named colon-writes) (name-writes s w.1) in
    join (λ rest h. refl) sorted semicolon-writes

pub all_declared-writes : (ds : List (Declared Text)) → AreWords_all_declared ds → Writes any (all_declared_text ds) (λ at. spell_all_declared (placed_all_declared at ds))
all_declared-writes [] w = nothing-writes any
all_declared-writes (d ∷ ds) w = next (declared-writes d w.0) (all_declared-writes ds w.1)

around-goal : (ds goal : List Piece) (begin stop : Piece) → ((ds ++ begin ∷ []) ++ goal) ++ stop ∷ [] ≡ ds ++ begin ∷ goal ++ stop ∷ []
around-goal ds goal begin stop = simp append_assoc

pub problem-writes : (p : Problem Text) → AreWords_problem p
    → Writes any (problem_tree_text p) (λ at. spell_all_declared (placed_all_declared at p.declared) ++ piece.Begin head.Goal ∷ spell (placed (behind at (all_declared_text p.declared ++ codes "goal ")) p.goal) ++ piece.Semicolon ∷ [])
problem-writes p w =
    let begun = next (all_declared-writes p.declared w.0) goal-writes in
    as_pieces (λ at. around-goal _ _ _ _) (join (λ rest h. refl) (next begun (tree-writes p.goal w.1)) semicolon-writes)

-- ---- levels

level-placed : (at : ℕ) (t : Tree Text) → level (placed at t) ≡ level t
level-placed at (Constant b) = refl
level-placed at (Atom t) = refl
level-placed at (Equation b sign l r) = refl
level-placed at (Not a) = refl
level-placed at (Bind q x s a) = refl
level-placed at (Bind2 q x ss a) = refl
level-placed at (Binary op l r) = refl
level-placed at (Paren a) = refl

-- an operand that is tight enough stays so
tight : (k at : ℕ) (t : Tree Text) → k ≤ level t → k ≤ level (placed at t)
tight k at t h = omega (arith, h, level-placed at t)

pub levelled-placed : (t : Tree Text) → IsLevelled t → (at : ℕ) → IsLevelled (placed at t)
levelled-placed (Constant b) l at = tt
levelled-placed (Atom t) l at = tt
levelled-placed (Equation b sign s t) l at = tt
levelled-placed (Not a) l at = (tight 4 _ a l.0, levelled-placed a l.1 _)
levelled-placed (Bind q x s a) l at = (tight 4 _ a l.0, levelled-placed a l.1 _)
levelled-placed (Bind2 q x ss a) l at = (tight 4 _ a l.0, levelled-placed a l.1 _)
levelled-placed (Binary op a b) l at = (tight (left op) at a l.0, levelled-placed a l.1 at, tight (right op) _ b l.2, levelled-placed b l.3 _)
levelled-placed (Paren a) l at = levelled-placed a l _

-- ---- whole texts

module _ (text : Text) (pieces : ℕ → List Piece) (test : ℕ → Bool) (ends : test 0 ≡ true) (x : Writes test text pieces) where
  whole : Reads 0 text (pieces 0)
  whole = subst (λ (bytes : List ℕ). Reads 0 bytes (pieces 0)) (append-nil text)
      (subst (λ (ps : List Piece). Reads 0 (text ++ []) ps) (append-nil (pieces 0)) (x.reads 0 [] [] ends (reads-end (0 + length text))))

pub formula_has_shape : (t : Tree Text) → AreWords t → IsLevelled t → HasForm (tree_text t) (placed 0 t)
formula_has_shape t w l =
    let r = whole (tree_text t) (λ at. spell (placed at t)) ends_word refl (tree-writes t w) in
    record { tokens = r.tokens; lexed = r.lexed; shape = record { levelled = levelled-placed t l 0; spelled = r.spelled [] refl } }

pub problem_has_shape : (p : Problem Text) → AreWords_problem p → IsLevelled p.goal → HasProblem (problem_tree_text p) (placed_problem p)
problem_has_shape p w l =
    let r = whole (problem_tree_text p) _ any refl (problem-writes p w) in
    record { tokens = r.tokens; lexed = r.lexed; shape = record { levelled = levelled-placed p.goal l _; spelled = r.spelled [] refl } }
