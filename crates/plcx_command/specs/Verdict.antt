-- The verdict on a file.
use Rattle.std.specs.Prelude.{◌≡◌, ◌≤◌, ◌<◌, ℕ, List, length, Option, Some, None}
use Rattle.plcx_types.specs.Limits.{max_file_bytes}
use Rattle.plcx_xml.specs.Faults.{Fails}
use Rattle.plcx_xml.specs.StandsForTree.{IsTreeOf}
use Rattle.plcx_xml.specs.declared.error.XmlError.{XmlError}
use Rattle.plcx_xml.specs.declared.error.XmlError.TheVariants as xml
use Rattle.plcx_xml.specs.declared.tree.Element.{Element}
use Rattle.plcx_model.specs.declared.broken.Broken as model
use Rattle.plcx_model.specs.declared.broken.Place.TheVariants.{Byte}
use Rattle.plcx_model.specs.declared.project.Project.{Project}
use Rattle.plcx_profile.specs.Profile.{IsBroken, ProfileVerdict, project_in}
use Rattle.plcx_rules.specs.CheckVerdict.{CheckVerdict, broken_at}

pub data Verdict : Type 0 where
  -- no rule is broken
  Accepted : Verdict
  -- the first rule that is broken, and its place
  Broken : model.Broken → Verdict

-- a rule that is broken at a byte
abbrev pub at_byte : ℕ → ℕ → model.Broken
at_byte rule byte = broken_at rule (Byte byte)

-- the rule behind a fault of the tree
abbrev pub tree_rule : XmlError → Option model.Broken
tree_rule (xml.NotUtf8 at) = Some (at_byte 1 at)
tree_rule (xml.Token at) = Some (at_byte 2 at)
tree_rule (xml.Nesting at) = Some (at_byte 3 at)
tree_rule (xml.TooDeep at) = Some (at_byte 7 at)
tree_rule xml.NoMemory = None

-- The first rule that bytes break: they stand for no tree; or their tree breaks a rule from 4 to 16; or its project one from 20 to 36.
pub data Breaks (bytes : List ℕ) : model.Broken → Type 0 where
  InTree : (e : XmlError) {b : model.Broken} → Fails bytes e → tree_rule e ≡ Some b → Breaks bytes b
  InProfile : (root : Element) {b : model.Broken} → IsTreeOf bytes root → IsBroken root b → Breaks bytes b
  InProject : (root : Element) {b : model.Broken} → IsTreeOf bytes root → ProfileVerdict root None → CheckVerdict (project_in root) (Some b) → Breaks bytes b

-- Bytes break no rule, and stand for this project.
pub record Keeps (bytes : List ℕ) (project : Project) : Type 0 where
  pub root : Element
  pub tree : IsTreeOf bytes root
  pub profile : ProfileVerdict root None
  pub stands : project ≡ project_in root
  pub checks : CheckVerdict project None

-- The verdict on bytes.
pub data IsVerdict (bytes : List ℕ) : Verdict → Type 0 where
  Refused : {b : model.Broken} → Breaks bytes b → IsVerdict bytes (Broken b)
  Passed : (project : Project) → Keeps bytes project → IsVerdict bytes Accepted

-- The verdict on a file, whose length is looked at first.
pub data FileVerdict (bytes : List ℕ) : Verdict → Type 0 where
  TooLong : max_file_bytes < length bytes → FileVerdict bytes (Broken (at_byte 7 max_file_bytes))
  Within : {v : Verdict} → length bytes ≤ max_file_bytes → IsVerdict bytes v → FileVerdict bytes v
