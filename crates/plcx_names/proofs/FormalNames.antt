-- Pins of function blocks and standard blocks as formal parameters.
use Rattle.std.proofs.Common.{◌≡◌, ℕ, suc, ◌+◌, ◌-◌, ◌<◌, true, false, cond, List, Option, Some, map, option_map, refl, sym, ◌∙◌, arith}
use Rattle.std.specs.List.{range_with_len}
use Rattle.plcx_funcs.specs.declared.func.Func.{Func}
use Rattle.plcx_funcs.specs.declared.pins.Class.{Class}
use Rattle.plcx_rules.specs.Texts.{same_name}
use Rattle.plcx_rules.specs.Callees.{BlockPin, Formal, fixed, pin_named, formal_named, function_input}
use Rattle.plcx_rules.specs.Forms.{class_of}
use Rattle.plcx_names.proofs.Finding.{find_map}

pub fixed_is : (name : List ℕ) (pins : List BlockPin) → formal_named name (map fixed pins) ≡ option_map fixed (pin_named name pins)
fixed_is name pins = find_map fixed (λ (f : Formal). same_name name f.name) pins

-- the class of an input of those from i on
abbrev class_from : Func → List ℕ → ℕ → ℕ → Option Class
class_from f name n i = class_of (formal_named name (map (function_input f) (range_with_len i (n - i))))

one_more : (f : Func) (name : List ℕ) (n i : ℕ) → i < n → class_from f name n i ≡ class_of (cond (same_name name (function_input f i).name) (Some (function_input f i)) (formal_named name (map (function_input f) (range_with_len (i + 1) (n - (i + 1))))))
one_more f name n i h = let e : n - i ≡ suc (n - (i + 1)) = omega (arith, h) in rw e refl

-- it is the first of them
pub is_first : (f : Func) (name : List ℕ) (n i : ℕ) (whole : Option Class) → i < n → same_name name (function_input f i).name ≡ true → class_from f name n i ≡ whole → Some (function_input f i).class ≡ whole
is_first f name n i whole h is all = sym (rw is at (one_more f name n i h)) ∙ all

-- it is a later one
pub is_later : (f : Func) (name : List ℕ) (n i : ℕ) (whole : Option Class) → i < n → same_name name (function_input f i).name ≡ false → class_from f name n i ≡ whole → class_from f name n (i + 1) ≡ whole
is_later f name n i whole h is all = sym (rw is at (one_more f name n i h)) ∙ all
