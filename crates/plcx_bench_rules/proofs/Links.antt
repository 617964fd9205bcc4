-- The rules on references, pins and names: why no element of the ring breaks any of them.
use Rattle.std.proofs.Common.{◌≡◌, ℕ, zero, suc, ◌+◌, ◌*◌, ◌%◌, ◌≤◌, ◌<◌, Bool, true, false, not, List, [], ◌∷◌, ◌++◌, Option, Some, None, is_none, refl, ap, arith}
use Rattle.std.specs.Fmt.{digits}
use Rattle.std.proofs.lemmas.Bool.{both_ways, or_from}
use Rattle.plcx_model.specs.declared.body.Connection.{Connection}
use Rattle.plcx_model.specs.declared.body.BodyElement.{BodyElement}
use Rattle.plcx_model.specs.declared.project.Pou.{Pou}
use Rattle.plcx_model.specs.declared.project.Project.{Project}
use Rattle.plcx_model.specs.Verdict.{Never, Kept, Next}
use Rattle.plcx_rules.specs.declared.rule.LinkRule.{LinkRule}
use Rattle.plcx_rules.specs.declared.rule.LinkRule.TheVariants as rule
use Rattle.plcx_rules.specs.Callees.{callee_named, function_input, inputs_of, in_outs_of, outputs_of}
use Rattle.plcx_rules.specs.Helds.{is_value, is_target}
use Rattle.plcx_rules.specs.Sources.{place_of_id, source_of}
use Rattle.plcx_rules.specs.Items.{Item, items_in, items_of}
use Rattle.plcx_rules.specs.LinkRules.{any_connection, lacks_source, has_no_callee, breaks_instance, inputs_fail, in_outs_fail, outputs_fail, breaks_formals, breaks_expression, breaks_target, breaks_connector, breaks_label, breaks_modifiers, is_of_ladder, breaks, BreaksLink, LinkVerdict}
use Rattle.plcx_bench_project.specs.Bench.{id_in, ring, ring_elements}
use Rattle.plcx_bench_rules.proofs.Held.{name_holds, one_holds}
use Rattle.plcx_bench_rules.proofs.Body.{reads, one, adds, writes, networks, numbered, none_before, place_of, to_reads, to_one, to_adds, reads_found, one_found, adds_found}

-- the POUs of the project
abbrev pub pous : ℕ → List Pou
pous n = ring n ∷ []

-- the project
abbrev pub bench : ℕ → Project
bench n = record { pous = pous n }

-- an element of the ring at a place
abbrev pub item : ℕ → ℕ → BodyElement → Item
item n p e = record { pou = 0; owner = ring n; place = p; element = e }

-- ---- over all elements

-- what no element of the four kinds is, none of the ring is
module _ (n : ℕ) (P : Item → Type 0)
    (no_reads : (i p : ℕ) → i < n → p ≡ 4 * i → P (item n p (reads i)) → ⊥)
    (no_one : (i p : ℕ) → i < n → p ≡ 4 * i + 1 → P (item n p (one i)) → ⊥)
    (no_adds : (i p : ℕ) → i < n → p ≡ 4 * i + 2 → P (item n p (adds i)) → ⊥)
    (no_writes : (i p : ℕ) → i < n → p ≡ 4 * i + 3 → P (item n p (writes n i)) → ⊥) where
  never_from : (p a m : ℕ) → p ≡ 4 * a → a + m ≤ n → (before : List Item) → Never (λ (b : List Item) (x : Item). P x) before (items_in 0 (ring n) p (networks n a m) ++ [])
  never_from p a zero at within before = tt
  never_from p a (suc m) at within before = (
    no_reads a p (omega arith) at,
    (
      no_one a (p + 1) (omega arith) (omega arith),
      (
        no_adds a (p + 1 + 1) (omega arith) (omega arith),
        (
          no_writes a (p + 1 + 1 + 1) (omega arith) (omega arith),
          never_from (p + 1 + 1 + 1 + 1) (a + 1) m (omega arith) (omega arith) _,
        ),
      ),
    ),
  )

  pub never : Never (λ (b : List Item) (x : Item). P x) [] (items_of (pous n))
  unfolding items_of
  never = never_from 0 0 n (omega arith) (omega arith) []

-- no element breaks the rule
abbrev pub Keeps : ℕ → LinkRule → Type 0
Keeps n r = Never (BreaksLink (pous n) r) [] (items_of (pous n))

-- the element keeps the rule
abbrev Obeys : ℕ → LinkRule → ℕ → BodyElement → Type 0
Obeys n r p e = breaks (pous n) r (item n p e) ≡ false

keeps : (n : ℕ) (r : LinkRule)
    → ((i p : ℕ) → i < n → p ≡ 4 * i → Obeys n r p (reads i))
    → ((i p : ℕ) → i < n → p ≡ 4 * i + 1 → Obeys n r p (one i))
    → ((i p : ℕ) → i < n → p ≡ 4 * i + 2 → Obeys n r p (adds i))
    → ((i p : ℕ) → i < n → p ≡ 4 * i + 3 → Obeys n r p (writes n i))
    → Keeps n r
keeps n r h k l m = never n (λ (x : Item). breaks (pous n) r x ≡ true)
    (λ i p below at. both_ways _ (h i p below at)) (λ i p below at. both_ways _ (k i p below at))
    (λ i p below at. both_ways _ (l i p below at)) (λ i p below at. both_ways _ (m i p below at))

-- ---- connections

none_of_adds : (is : Connection → Bool) (i : ℕ) → is (to_reads i) ≡ false → is (to_one i) ≡ false → any_connection is (adds i).kind ≡ false
none_of_adds is i h k = or_from _ _ (or_from _ _ h refl) (or_from _ _ (or_from _ _ k refl) refl)

none_of_writes : (is : Connection → Bool) (n i : ℕ) → is (to_adds i) ≡ false → any_connection is (writes n i).kind ≡ false
none_of_writes is n i h = or_from _ _ (or_from _ _ h refl) refl

is_there : {A : Type 0} (o : Option A) (x : A) → o ≡ Some x → is_none o ≡ false
is_there o x is = ap is_none is

-- ---- the rules

-- 20: each number is the one after its element's place, so earlier ones are less.
local_ids : (n : ℕ) → Keeps n rule.LocalIds
unfolding breaks
local_ids n = keeps n rule.LocalIds
    (λ i p below at. none_before (id_in i 1) 0 p (ring_elements n) (numbered n) (omega arith))
    (λ i p below at. none_before (id_in i 2) 0 p (ring_elements n) (numbered n) (omega arith))
    (λ i p below at. none_before (id_in i 3) 0 p (ring_elements n) (numbered n) (omega arith))
    (λ i p below at. none_before (id_in i 4) 0 p (ring_elements n) (numbered n) (omega arith))

-- 21: each connection names an element of its own network.
references : (n : ℕ) → Keeps n rule.References
unfolding breaks
references n = keeps n rule.References (λ i p below at. refl) (λ i p below at. refl)
    (λ i p below at. none_of_adds is i (is_there _ _ (place_of n (id_in i 1) (4 * i) refl (omega arith))) (is_there _ _ (place_of n (id_in i 2) (4 * i + 1) (omega arith) (omega arith))))
    (λ i p below at. none_of_writes is n i (is_there _ _ (place_of n (id_in i 3) (4 * i + 2) (omega arith) (omega arith))))
  where
    is : Connection → Bool
    is c = is_none (place_of_id (ring_elements n) c.element)

-- 22: an input has one output, which needs no name, and the addition's is named as it is listed.
outputs : (n : ℕ) → Keeps n rule.Outputs
unfolding breaks
outputs n = keeps n rule.Outputs (λ i p below at. refl) (λ i p below at. refl)
    (λ i p below at. none_of_adds is i (is_there _ _ (reads_found n i below)) (is_there _ _ (one_found n i below)))
    (λ i p below at. none_of_writes is n i (is_there _ _ (adds_found n i below)))
  where
    is : Connection → Bool
    is c = is_none (source_of (ring_elements n) c)

-- 23: one connection stands at each pin.
several : (n : ℕ) → Keeps n rule.Several
unfolding breaks
several n = keeps n rule.Several (λ i p below at. refl) (λ i p below at. refl) (λ i p below at. refl) (λ i p below at. refl)

-- 24: each pin has its connection, and there are no in-outs.
missing : (n : ℕ) → Keeps n rule.Missing
unfolding breaks lacks_source
missing n = keeps n rule.Missing (λ i p below at. refl) (λ i p below at. refl) (λ i p below at. refl) (λ i p below at. refl)

-- 25: ADD is a function.
block_types : (n : ℕ) → Keeps n rule.BlockTypes
unfolding breaks has_no_callee callee_named
block_types n = keeps n rule.BlockTypes (λ i p below at. refl) (λ i p below at. refl) (λ i p below at. refl) (λ i p below at. refl)

-- 26: a function has no instance, and ADD is given none.
instances : (n : ℕ) → Keeps n rule.Instances
unfolding breaks breaks_instance callee_named
instances n = keeps n rule.Instances (λ i p below at. refl) (λ i p below at. refl) (λ i p below at. refl) (λ i p below at. refl)

-- 27: ADD has the inputs IN1 and IN2 where it has two, and the output OUT.
formals : (n : ℕ) → Keeps n rule.Formals
unfolding breaks breaks_formals callee_named inputs_fail in_outs_fail outputs_fail inputs_of function_input in_outs_of outputs_of digits
formals n = keeps n rule.Formals (λ i p below at. refl) (λ i p below at. refl) (λ i p below at. refl) (λ i p below at. refl)

-- 28: each text is the name of a variable or a literal.
expressions : (n : ℕ) → n ≤ 1000 → Keeps n rule.Expressions
unfolding breaks breaks_expression is_value
expressions n small = keeps n rule.Expressions
    (λ i p below at. ap (λ h. not (is_value h)) (name_holds (pous n) n i small below))
    (λ i p below at. ap (λ h. not (is_value h)) (one_holds (pous n) n))
    (λ i p below at. refl)
    (λ i p below at. is_there _ _ (name_holds (pous n) n ((i + 1) % n) small (omega arith)))

-- 29: what is written is a local variable that isn't constant, and there are no in-outs.
targets : (n : ℕ) → n ≤ 1000 → Keeps n rule.Targets
unfolding breaks breaks_target is_target
targets n small = keeps n rule.Targets (λ i p below at. refl) (λ i p below at. refl) (λ i p below at. refl)
    (λ i p below at. ap (λ h. not (is_target h)) (name_holds (pous n) n ((i + 1) % n) small (omega arith)))

-- 30: there are no connectors and continuations.
connectors : (n : ℕ) → Keeps n rule.Connectors
unfolding breaks breaks_connector
connectors n = keeps n rule.Connectors (λ i p below at. refl) (λ i p below at. refl) (λ i p below at. refl) (λ i p below at. refl)

-- 31: there are no labels and jumps.
labels : (n : ℕ) → Keeps n rule.Labels
unfolding breaks breaks_label
labels n = keeps n rule.Labels (λ i p below at. refl) (λ i p below at. refl) (λ i p below at. refl) (λ i p below at. refl)

-- 32: there are no modifiers.
modifiers : (n : ℕ) → Keeps n rule.Modifiers
unfolding breaks breaks_modifiers
modifiers n = keeps n rule.Modifiers (λ i p below at. refl) (λ i p below at. refl) (λ i p below at. refl) (λ i p below at. refl)

-- 33: there are no rails, contacts and coils.
ladders : (n : ℕ) → Keeps n rule.Ladders
unfolding breaks is_of_ladder
ladders n = keeps n rule.Ladders (λ i p below at. refl) (λ i p below at. refl) (λ i p below at. refl) (λ i p below at. refl)

-- no element breaks any of these rules
pub links_kept : (n : ℕ) → n ≤ 1000 → LinkVerdict (bench n) None
links_kept n small =
    Next (local_ids n) (Next (references n) (Next (outputs n) (Next (several n) (Next (missing n) (Next (block_types n) (Next (instances n)
    (Next (formals n) (Next (expressions n small) (Next (targets n small) (Next (connectors n) (Next (labels n) (Next (modifiers n) (Next (ladders n) Kept)))))))))))))
