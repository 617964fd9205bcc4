-- Serves proofs: the formal parameters on a side of a block.
use Rattle.std.specs.Prelude.{ℕ, Bool, false, not, ◌||◌, List, [], ◌∷◌, map, is_none}
use Rattle.std.specs.Borrow.{Bor}
use Rattle.std.specs.List.{list_any}
use Rattle.plcx_model.specs.declared.body.PinIn.{PinIn}
use Rattle.plcx_model.specs.declared.project.ListClass.TheVariants.{InOut}
use Rattle.plcx_model.specs.declared.project.Pou.{Pou}
use Rattle.plcx_rules.specs.declared.callee.Callee.{Callee}
use Rattle.plcx_rules.specs.Texts.{same_name}
use Rattle.plcx_rules.specs.Callees.{Formal, enable, enabled, inputs_of, in_outs_of, outputs_of, formal_named, fixed, block_pins_at}
use Rattle.plcx_rules.specs.LinkRules.{has_double, is_listed}
use Rattle.plcx_link.specs.declared.formals.Side.{Side}
use Rattle.plcx_link.specs.declared.formals.Side.TheVariants.{Inputs, InOuts, Outputs}

-- the formal parameters of a callee on a side
abbrev pub formals_on : List Pou → Callee → Side → List Formal
formals_on pous c (Inputs n) = enable ∷ inputs_of pous c n
formals_on pous c InOuts = in_outs_of pous c
formals_on pous c Outputs = enabled ∷ outputs_of pous c

-- a name is unknown there, or stands twice
abbrev pub side_fails : List Pou → Callee → Side → List (List ℕ) → Bool
side_fails pous c side names = list_any (λ (n : List ℕ). is_none (formal_named n (formals_on pous c side))) names || has_double names

-- an in-out of the callee isn't listed
abbrev pub missing : List Pou → Callee → List PinIn → Bool
missing pous c in_outs = list_any (λ (f : Formal). not (is_listed in_outs f)) (in_outs_of pous c)

-- an in-out of the function block at a place isn't listed
abbrev pub block_missing : List Pou → ℕ → List PinIn → Bool
block_missing pous place in_outs = list_any (λ (f : Formal). not (is_listed in_outs f)) (map fixed (block_pins_at InOut pous place))

-- the first of some names stands behind it too
abbrev pub twice_at : List (Bor (List ℕ)) → Bool
twice_at [] = false
twice_at (n ∷ rest) = list_any (λ (m : Bor (List ℕ)). same_name n.now m.now) rest
