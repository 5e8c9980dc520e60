-- The same texts, as the printer writes them: arguments from the first on, and declarations by their places.
use Rattle.std.specs.Prelude.{List, [], ◌++◌, Option, Some, None, codes}
use Rattle.soqe_term.specs.declared.term.Terms.{Terms, Nil, Cons', end_of-Term as end-t, more_of-Term as one-t, end_of-Terms as ends-t, more_of-Terms as ones-t}
use Rattle.soqe_signature.specs.Declarations.{Declaration}
use Rattle.soqe_show.specs.Printed.{Text, term_text, all_declared_text}
use Rattle.soqe_show.specs.Dress.{dress_term, dress_declared}

-- arguments behind the first, each behind a comma
abbrev pub further_args_text : List Declaration → Terms → Text
further_args_text ds Nil = []
further_args_text ds (Cons' _ (one-t t end-t) _ (ones-t ts ends-t)) = codes ", " ++ term_text (dress_term ds t) ++ further_args_text ds ts

-- arguments, in parentheses where there are any
abbrev pub args_text : List Declaration → Terms → Text
args_text ds Nil = []
args_text ds (Cons' _ (one-t t end-t) _ (ones-t ts ends-t)) = codes "(" ++ term_text (dress_term ds t) ++ further_args_text ds ts ++ codes ")"

-- the line of a declaration; that of a name that no text declares is empty
abbrev pub declaration_text : List Declaration → Declaration → Text
declaration_text ds d = all_declared_text (dress_declared ds d)

-- the line of the declaration at a place, if there is one
abbrev pub line_at : List Declaration → Option Declaration → Text
line_at ds None = []
line_at ds (Some d) = declaration_text ds d
