-- What the code keeps of names, as the definitions see it.
use Rattle.std.specs.Prelude.{◌≡◌, ℕ, ◌&&◌, Bool, List, Vec, Option, option_map}
use Rattle.std.specs.declared.alloc.Global.{Global}
use Rattle.std.specs.List.{find, position_from}
use Rattle.std.specs.Str.{bytes_eq}
use Rattle.plcx_types.specs.Name.{in_lower_case}
use Rattle.plcx_model.specs.declared.project.Pou.{Pou}
use Rattle.plcx_rules.specs.Declarations.{Declaration, declarations_of}
use Rattle.plcx_rules.specs.Callees.{BlockPin, Formal, formal, is_block}
use Rattle.plcx_names.specs.declared.variables.Declared.{Declared}
use Rattle.plcx_names.specs.declared.variables.OwnVariable.{OwnVariable}
use Rattle.plcx_names.specs.declared.pins.OwnPin.{OwnPin}
use Rattle.plcx_names.specs.declared.formals.Formal as formals
use Rattle.plcx_names.specs.Told.{place_at}

-- ---- variables

-- a variable of the code
abbrev pub shown_variable : OwnVariable → Declaration
shown_variable v = record { class = v.class; constant = v.constant; variable = v.variable.now }

-- what the code answers of a variable
abbrev pub summary : Declaration → Declared
summary d = record { class = d.class; constant = d.constant; ty = d.variable.ty }

-- a variable has that name, which is given in lower case
abbrev pub is_declared : List ℕ → Declaration → Bool
is_declared key d = bytes_eq key (in_lower_case d.variable.name)

-- the table has the place of each name
abbrev pub VariablesTold : List OwnVariable → List (Vec ℕ Global × ℕ) → Type 0
VariablesTold all entries = (q : List ℕ) → place_at q entries ≡ position_from (λ (v : OwnVariable). is_declared q (shown_variable v)) 0 all

-- what the code answers of a name in a POU, which is given in lower case
abbrev pub declared_as : Pou → List ℕ → Option Declared
declared_as p key = option_map summary (find (is_declared key) (declarations_of p))

-- ---- pins

-- a pin of the code
abbrev pub shown_pin : OwnPin → BlockPin
shown_pin p = record { name = p.name.now; ty = p.ty }

-- a pin has that name, which is given in lower case
abbrev pub is_pin : List ℕ → BlockPin → Bool
is_pin key p = bytes_eq key (in_lower_case p.name)

-- the table has the place of each pin
abbrev pub PinsTold : List OwnPin → List (Vec ℕ Global × ℕ) → Type 0
PinsTold pins entries = (q : List ℕ) → place_at q entries ≡ position_from (λ (p : OwnPin). is_pin q (shown_pin p)) 0 pins

-- a formal parameter of the code
abbrev pub shown_formal : formals.Formal → Formal
shown_formal f = formal f.name.now f.class

-- ---- function blocks

-- a function block has that name, which is given in lower case
abbrev pub is_block_key : List ℕ → Pou → Bool
is_block_key key p = is_block p.kind && bytes_eq key (in_lower_case p.name)

-- the table has the place of each function block
abbrev pub BlocksTold : List Pou → List (Vec ℕ Global × ℕ) → Type 0
BlocksTold pous entries = (q : List ℕ) → place_at q entries ≡ position_from (is_block_key q) 0 pous
