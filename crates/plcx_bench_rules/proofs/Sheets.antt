-- What the types of the ring go by: of each network two inputs that are grouped, the target's input, and the sources of these.
use Rattle.std.proofs.Common.{◌≡◌, ℕ, zero, suc, ◌+◌, ◌*◌, ◌%◌, ◌≤◌, ◌<◌, false, List, [], ◌∷◌, map, flat_map, Option, Some, None, option_map, codes, refl, ap, arith}
use Rattle.std.specs.Fmt.{digits}
use Rattle.std.specs.List.{range_with_len, cons_option}
use Rattle.plcx_types.specs.declared.ty.Ty.TheVariants as ty
use Rattle.plcx_funcs.specs.declared.allowed.Allowed.TheVariants as set
use Rattle.plcx_funcs.specs.declared.pins.Class.{Class}
use Rattle.plcx_funcs.specs.declared.pins.Class.TheVariants as class
use Rattle.plcx_model.specs.declared.body.BodyElement.{BodyElement}
use Rattle.plcx_model.specs.declared.source.Source.{Source}
use Rattle.plcx_rules.specs.declared.form.Pin.{Pin}
use Rattle.plcx_rules.specs.declared.form.Gives.{Gives}
use Rattle.plcx_rules.specs.declared.form.Gives.TheVariants.{Typed, Grouped}
use Rattle.plcx_rules.specs.declared.form.Outputs.TheVariants.{Absent, Single, Listed}
use Rattle.plcx_rules.specs.declared.form.Grouping.TheVariants.{Function}
use Rattle.plcx_rules.specs.declared.form.Form.{Form}
use Rattle.plcx_rules.specs.Callees.{callee_named, function_input, inputs_of, outputs_of}
use Rattle.plcx_rules.specs.Forms.{pin, out, apart, gives_held, declared, text_gives, block_pins, block_outputs, element_pins, form_of, pins_from, sheet_at}
use Rattle.plcx_rules.specs.Sources.{source, source_of, pins_with_sources, sources_in, links_of}
use Rattle.plcx_rules.specs.Types.{Sheet}
use Rattle.plcx_bench_project.specs.Bench.{variable_name, next_name, ring, ring_elements}
use Rattle.plcx_bench_rules.proofs.Held.{name_holds, one_holds}
use Rattle.plcx_bench_rules.proofs.Body.{networks, to_reads, to_one, to_adds, reads_found, one_found, adds_found}
use Rattle.plcx_bench_rules.proofs.Links.{pous}

-- ---- one network

-- an input of the addition at that place
abbrev pub grouped : ℕ → Pin
grouped e = pin e (Some class.Group) false

-- the input of the target at that place
abbrev pub fixed : ℕ → Pin
fixed e = pin e (Some (class.Fixed ty.Dint)) false

-- the input pins of a network
abbrev pub ring_pins : ℕ → List Pin
ring_pins i = grouped (4 * i + 2) ∷ grouped (4 * i + 2) ∷ fixed (4 * i + 3) ∷ []

-- a variable or `DINT#1`
abbrev pub value : Form
value = apart (Single (out (Typed ty.Dint) false)) None

-- the addition
abbrev pub sum : Form
sum = record { outputs = Listed (out Grouped false ∷ []); grouping = Function set.WholeTime; operand = None }

-- the target
abbrev pub target : Form
target = apart Absent None

-- its elements
abbrev pub ring_forms : ℕ → List Form
ring_forms i = value ∷ value ∷ sum ∷ target ∷ []

-- the sources of its input pins
abbrev pub ring_sources : ℕ → List (List Source)
ring_sources i = (source (4 * i) 0 ∷ []) ∷ (source (4 * i + 1) 0 ∷ []) ∷ (source (4 * i + 2) 0 ∷ []) ∷ []

-- all networks
abbrev pub sheet : ℕ → Sheet
sheet n = record {
  forms = flat_map ring_forms (range_with_len 0 n);
  pins = flat_map ring_pins (range_with_len 0 n);
  sources = flat_map ring_sources (range_with_len 0 n);
}

-- ---- pins

-- a variable gives its type
variable_gives : (n i : ℕ) → n ≤ 1000 → i < n → text_gives (pous n) (ring n) (variable_name i) ≡ Typed ty.Dint
unfolding text_gives
variable_gives n i small below = ap gives_held (name_holds (pous n) n i small below)

pin_row : (x u y v : ℕ) (c d : Option Class) (r s : List Pin) → x ≡ u → y ≡ v → c ≡ d → r ≡ s
    → grouped x ∷ grouped x ∷ pin y c false ∷ r ≡ grouped u ∷ grouped u ∷ pin v d false ∷ s
pin_row x u y v c d r s e f g h = cc

pins_are : (n p a m : ℕ) → n ≤ 1000 → p ≡ 4 * a → a + m ≤ n → pins_from (pous n) (ring n) p (networks n a m) ≡ flat_map ring_pins (range_with_len a m)
unfolding element_pins block_pins callee_named inputs_of function_input digits
pins_are n p a zero small at within = refl
pins_are n p a (suc m) small at within =
    pin_row (p + 1 + 1) (4 * a + 2) (p + 1 + 1 + 1) (4 * a + 3) (option_map class.Fixed (declared (text_gives (pous n) (ring n) (next_name n a)))) (Some (class.Fixed ty.Dint)) _ _
    (omega arith) (omega arith) (ap (λ g. option_map class.Fixed (declared g)) (variable_gives n ((a + 1) % n) small (omega arith)))
    (pins_are n (p + 1 + 1 + 1 + 1) (a + 1) m small (omega arith) (omega arith))

-- ---- forms

form_row : (g h : Gives) (r s : List Form) → g ≡ h → r ≡ s
    → apart (Single (out g false)) None ∷ value ∷ sum ∷ target ∷ r ≡ apart (Single (out h false)) None ∷ value ∷ sum ∷ target ∷ s
form_row g h r s e f = cc

one_gives : (n : ℕ) → text_gives (pous n) (ring n) (codes "DINT#1") ≡ Typed ty.Dint
unfolding text_gives
one_gives n = ap gives_held (one_holds (pous n) n)

forms_are : (n a m : ℕ) → n ≤ 1000 → a + m ≤ n → map (λ (x : BodyElement). form_of (pous n) (ring n) x.kind) (networks n a m) ≡ flat_map ring_forms (range_with_len a m)
unfolding form_of block_outputs callee_named outputs_of
forms_are n a zero small within = refl
forms_are n a (suc m) small within =
    rw (one_gives n)
    (form_row (text_gives (pous n) (ring n) (variable_name a)) (Typed ty.Dint) _ _ (variable_gives n a small (omega arith)) (forms_are n (a + 1) m small (omega arith)))

-- ---- sources

source_row : (f g h : Option Source) (x y z : Source) (r s : List (List Source)) → f ≡ Some x → g ≡ Some y → h ≡ Some z → r ≡ s
    → cons_option f [] ∷ cons_option g [] ∷ cons_option h [] ∷ r ≡ (x ∷ []) ∷ (y ∷ []) ∷ (z ∷ []) ∷ s
source_row f g h x y z r s d e k same = rw (d, e, k, same) refl

sources_are : (n a m : ℕ) → a + m ≤ n → flat_map (λ (e : BodyElement). pins_with_sources (ring_elements n) e.kind) (networks n a m) ≡ flat_map ring_sources (range_with_len a m)
unfolding pins_with_sources
sources_are n a zero within = refl
sources_are n a (suc m) within =
    source_row (source_of (ring_elements n) (to_reads a)) (source_of (ring_elements n) (to_one a)) (source_of (ring_elements n) (to_adds a))
    (source (4 * a) 0) (source (4 * a + 1) 0) (source (4 * a + 2) 0) _ _
    (reads_found n a (omega arith)) (one_found n a (omega arith)) (adds_found n a (omega arith)) (sources_are n (a + 1) m (omega arith))

-- ---- the sheet

same_sheet : (f g : List Form) (p q : List Pin) (s t : List (List Source)) → f ≡ g → p ≡ q → s ≡ t
    → let a : Sheet = record { forms = f; pins = p; sources = s } in let b : Sheet = record { forms = g; pins = q; sources = t } in a ≡ b
same_sheet f g p q s t d e h = cc

pub sheet_is : (n : ℕ) → n ≤ 1000 → sheet_at (pous n) (links_of (pous n)) 0 (ring n) ≡ sheet n
unfolding sources_in
sheet_is n small = same_sheet _ _ _ _ _ _ (forms_are n 0 n small (omega arith)) (pins_are n 0 0 n small (omega arith) (omega arith)) (sources_are n 0 n (omega arith))
