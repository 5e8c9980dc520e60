-- The worlds of finite structures.
use Rattle.std.specs.Prelude.{List}
use Rattle.soqe_term.specs.Fits.{Fits}
use Rattle.soqe_signature.specs.Declarations.{Declaration, sorting_of}
use Rattle.soqe_signature.specs.Structures.{Structure, Setting, world_of, IsStructureFor, IsSettingFor}

-- the world of a finite structure and a setting fits what the signature says
abbrev pub StructuresFit : Type 0
StructuresFit = (ds : List Declaration) (m : Structure) (s : Setting) → IsStructureFor ds m → IsSettingFor ds m s → Fits (world_of ds m s) (sorting_of ds)
