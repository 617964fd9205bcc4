-- A unit breaks nothing exactly where it is ready.
use Rattle.std.proofs.Common.{◌≡◌, ◌≢◌, ℕ, ◌≤◌, Bool, true, false, not, ◌&&◌, ◌||◌, List, [], ◌∷◌, ◌++◌, map, Option, Some, None, refl, sym, ap, subst, ◌∙◌, arith}
use Rattle.std.specs.Prelude.{is_some}
use Rattle.std.specs.List.{list_any, list_all, flat_map}
use Rattle.std.specs.Option.{option_map}
use Rattle.std.proofs.lemmas.Bool.{and_parts, and_right, or_parts, or_from, or_left, not-false, not_from_true, both_ways, ltb-false, le-ltb}
use Rattle.plcx_types.specs.declared.ty.Ty.{Ty}
use Rattle.plcx_types.specs.Limits.{max_instance_chain, max_text_leaves}
use Rattle.plcx_types.specs.Name.{in_lower_case}
use Rattle.plcx_types.specs.Lists.{Each}
use Rattle.plcx_types.specs.Range.{InRange}
use Rattle.plcx_types.specs.Reserved.{is_listed}
use Rattle.plcx_types.specs.TypeName.{type_named}
use Rattle.plcx_types.specs.Value.{Value}
use Rattle.plcx_std.specs.declared.kind.StdKind.{StdKind}
use Rattle.plcx_std.specs.declared.kind.StdKind.TheVariants as kind
use Rattle.plcx_std.specs.Kind.{kind_named}
use Rattle.plcx_meaning.specs.Base.{are_distinct}
use Rattle.plcx_meaning.specs.Tree.{PouKind, Program, FunctionBlock, is_program, Class, Local, Input, Output, InOut, Temp, Mark, Plain, Constant, Retain, PouText}
use Rattle.plcx_meaning.specs.Layout.{Variable, variable, block_variables, variables_of, World, Meaning, Elementary, Composed, composed, meaning, parts, Scope}
use Rattle.plcx_meaning.specs.Standard.{pin_blocks}
use Rattle.plcx_meaning.specs.Execute as text
use Rattle.plcx_meaning.specs.Ready.{StatementIsReady, VariableIsReady, size, PouIsReady, IsReady}
use Rattle.plcx_meaning.proofs.Lists.{each_at, each_weaker}
use Rattle.plcx_meaning.proofs.Lookups.{map_flat}
use Rattle.plcx_meaning.proofs.LookupsOwn.{elementary_meaning}
use Rattle.plcx_meaning.proofs.ReadyUnits.{named_each}
use Rattle.plcx_conditions.specs.declared.broken.Condition.TheVariants as c
use Rattle.plcx_conditions.specs.Placed.{Word, Literal, Statement, bare_statement, Declaration, bare_declaration, Block, bare_block, Pou, bare_pou, bare, Declared, declared_in, declared, bare_variable}
use Rattle.plcx_conditions.specs.Known.{is_among, world_of, knows, known, is_instance, scope_in, differ, block_named}
use Rattle.plcx_conditions.specs.Expressions.{broken_in_literal}
use Rattle.plcx_conditions.specs.Statements.{broken_in_statement}
use Rattle.plcx_conditions.specs.Declarations.{broken_in_own_name, broken_in_type, broken_in_initial, has_instances, is_in_out, broken_in_place, starts_chain, broken_in_variable, broken_in_variables, has_chain, is_large, broken_in_size, broken_in_body, setting, broken_in_pou, broken_in_pous, broken_in}
use Rattle.plcx_conditions.proofs.Basics.{false_if_none, none_if_false, parts_none, none_from, each_none, none_each, none_pass}
use Rattle.plcx_conditions.proofs.Worlds.{pou_names, world_is, knows_is, block_there}
use Rattle.plcx_conditions.proofs.Distinct.{keys, AllNew, new_apart, apart_new, none_before}
use Rattle.plcx_conditions.proofs.Values.{literal_fits, literal_none, AreKnown, PartsAreKnown, known_is, no_instance}
use Rattle.plcx_conditions.proofs.Bodies.{agrees, not_other, type_of_elementary, AreNamed, PartsAreNamed, statement_none, statement_ready}
use Rattle.plcx_conditions.proofs.Chains.{NoneStarts, nests_none, none_nests}

-- ---- the variables of a POU

block_bare : (b : Block) → block_variables (bare_block b) ≡ map bare_variable (declared_in b)
block_bare b = each b.declarations
  where
    each : (ds : List Declaration) → map (variable b.class b.mark) (map bare_declaration ds) ≡ map bare_variable (map (λ (d : Declaration). let v : Declared = record { class = b.class; mark = b.mark; declaration = d } in v) ds)
    each [] = refl
    each (d ∷ ds) = ap (λ vs. variable b.class b.mark (bare_declaration d) ∷ vs) (each ds)

blocks_bare : (bs : List Block) → variables_of (map bare_block bs) ≡ flat_map (λ b. map bare_variable (declared_in b)) bs
blocks_bare [] = refl
blocks_bare (b ∷ bs) = ap (λ vs. vs ++ variables_of (map bare_block bs)) (block_bare b) ∙ ap (λ vs. map bare_variable (declared_in b) ++ vs) (blocks_bare bs)

pub variables_bare : (p : Pou) → variables_of (bare_pou p).blocks ≡ map bare_variable (declared p)
variables_bare p = blocks_bare p.blocks ∙ sym (map_flat bare_variable declared_in p.blocks)

abbrev names_of : List Declared → List Word
names_of vs = map (λ (v : Declared). v.declaration.name) vs

variable_keys : (vs : List Declared) → map (λ (v : Variable). in_lower_case v.name) (map bare_variable vs) ≡ keys (names_of vs)
variable_keys [] = refl
variable_keys (v ∷ vs) = ap (λ ks. in_lower_case v.declaration.name.name ∷ ks) (variable_keys vs)

abbrev pou_words : List Pou → List Word
pou_words ps = map (λ (p : Pou). p.name) ps

pou_keys : (ps : List Pou) → pou_names (bare ps) ≡ keys (pou_words ps)
pou_keys [] = refl
pou_keys (p ∷ ps) = ap (λ ks. in_lower_case p.name.name ∷ ks) (pou_keys ps)

each_of_map : {A B : Type 0} (P : B → Type 0) (f : A → B) (xs : List A) → Each P (map f xs) → Each (λ x. P (f x)) xs
each_of_map P f [] h = tt
each_of_map P f (x ∷ xs) h = (h.0, each_of_map P f xs h.1)

-- ---- one variable

own_name_none : (before : List Word) (x : Word) → is_among before x ≡ false → is_listed x.name ≡ false → broken_in_own_name before x ≡ []
own_name_none before x h k = none_if_false _ c.Name x.at (or_from (is_among before x) (is_listed x.name) h k)

own_name_free : (before : List Word) (x : Word) → broken_in_own_name before x ≡ [] → (is_among before x ≡ false) × (is_listed x.name ≡ false)
own_name_free before x h = or_parts (is_among before x) (is_listed x.name) (false_if_none _ c.Name x.at h)

initial_none : (unit : List PouText) (type : List ℕ) (o : Option Literal)
    → ((value : Value) → option_map (λ (v : Literal). v.value) o ≡ Some value → (type_named type ≡ Some value.ty) × InRange value.ty value.n) → broken_in_initial (known unit type) o ≡ []
initial_none unit type None h = refl
initial_none unit type (Some v) h =
    let k = h v.value refl in
    none_from (broken_in_literal v) _ (literal_none v k.1) (none_if_false _ c.Types v.at (agrees (knows unit type) (meaning (world_of unit) type) v.value.ty (elementary_meaning (world_of unit) type v.value.ty k.0)))

same_known : (unit : List PouText) (type : List ℕ) (m : Meaning) (t : Ty) → m ≡ meaning (world_of unit) type → differ (Some m) (Some t) ≡ false → type_named type ≡ Some t
same_known unit type (Elementary u) t e h = type_of_elementary (world_of unit) type t (sym e ∙ ap Elementary (sym (not_other u t h)))
same_known unit type (Composed vs) t e h = absurd (cc)

initial_typed : (unit : List PouText) (type : List ℕ) (o : Option Literal) → knows unit type ≡ true → broken_in_initial (known unit type) o ≡ []
    → (value : Value) → option_map (λ (v : Literal). v.value) o ≡ Some value → (type_named type ≡ Some value.ty) × InRange value.ty value.n
initial_typed unit type None k h value e = absurd (cc)
initial_typed unit type (Some v) k h value e =
    let halves = parts_none (broken_in_literal v) _ h in
    let test : differ (Some (meaning (world_of unit) type)) (Some v.value.ty) ≡ false = rw (known_is unit type k) at (false_if_none _ c.Types v.at halves.1) in
    let is : v.value ≡ value = cc in
    subst (λ (w : Value). (type_named type ≡ Some w.ty) × InRange w.ty w.n) is (same_known unit type (meaning (world_of unit) type) v.value.ty refl test, literal_fits v halves.0)

instance_unnamed : (unit : List PouText) (type : List ℕ) → is_instance (known unit type) ≡ true → type_named type ≡ None
instance_unnamed unit type h = by_type (type_named type) refl
  where
    by_type : (o : Option Ty) → type_named type ≡ o → type_named type ≡ None
    by_type None e = e
    by_type (Some t) e = absurd (both_ways (is_instance (known unit type)) (no_instance (knows unit type) (meaning (world_of unit) type) t (elementary_meaning (world_of unit) type t e)) h)

unnamed_instance : (unit : List PouText) (type : List ℕ) → knows unit type ≡ true → type_named type ≡ None → is_instance (known unit type) ≡ true
unnamed_instance unit type k h = ap is_instance (known_is unit type k) ∙ ap (λ o. is_instance (Some (elim o [ Some t ↦ Elementary t | None ↦ Composed (composed (world_of unit) type) ]))) h

place_by : (type : Option Meaning) (kind : PouKind) (v : Declared) → (is_instance type ≡ true → (v.class ≡ Local) × (v.mark ≢ Constant)) → (v.class ≡ InOut → kind ≢ Program) → (is_instance type && not (has_instances v) || is_in_out v && is_program kind) ≡ false
place_by type kind v h k = or_from (is_instance type && not (has_instances v)) (is_in_out v && is_program kind) (by_instance (is_instance type) h) (by_class v.class k)
  where
    stands : (class : Class) (mark : Mark) → class ≡ Local → mark ≢ Constant → has_instances (record v { class = class; mark = mark }) ≡ true
    stands Local Plain e n = refl
    stands Local Constant e n = absurd (n refl)
    stands Local Retain e n = refl
    stands Input mark e n = absurd (cc)
    stands Output mark e n = absurd (cc)
    stands InOut mark e n = absurd (cc)
    stands Temp mark e n = absurd (cc)

    by_instance : (b : Bool) → (b ≡ true → (v.class ≡ Local) × (v.mark ≢ Constant)) → (b && not (has_instances v)) ≡ false
    by_instance false f = refl
    by_instance true f = not_from_true (has_instances v) (stands v.class v.mark (f refl).0 (f refl).1)

    no_program : (q : PouKind) → q ≢ Program → is_program q ≡ false
    no_program Program n = absurd (n refl)
    no_program FunctionBlock n = refl

    by_class : (class : Class) → (class ≡ InOut → kind ≢ Program) → (is_in_out (record v { class = class }) && is_program kind) ≡ false
    by_class InOut f = no_program kind (f refl)
    by_class Local f = refl
    by_class Input f = refl
    by_class Output f = refl
    by_class Temp f = refl

instance_from : (v : Declared) → has_instances v ≡ true → (v.class ≡ Local) × (v.mark ≢ Constant)
instance_from v h = by v.class v.mark h
  where
    by : (class : Class) (mark : Mark) → has_instances (record v { class = class; mark = mark }) ≡ true → (class ≡ Local) × (mark ≢ Constant)
    by Local Plain k = (refl, λ e. cc)
    by Local Constant k = absurd (cc)
    by Local Retain k = (refl, λ e. cc)
    by Input mark k = absurd (cc)
    by Output mark k = absurd (cc)
    by InOut mark k = absurd (cc)
    by Temp mark k = absurd (cc)

in_out_from : (kind : PouKind) (v : Declared) → (is_in_out v && is_program kind) ≡ false → v.class ≡ InOut → kind ≢ Program
in_out_from kind v h e k =
    let class : is_in_out v ≡ true = ap (λ (q : Class). is_in_out (record v { class = q })) e in
    let program : is_program kind ≡ true = ap is_program k in
    both_ways (is_in_out v && is_program kind) h (rw (class, program) refl)

module _ (unit : List PouText) (apart : are_distinct (pou_names unit) ≡ true) where
  variable_none : (kind : PouKind) (before : List Word) (v : Declared) → is_among before v.declaration.name ≡ false → VariableIsReady unit kind (bare_variable v) → starts_chain max_instance_chain unit (bare_variable v) ≡ false
      → broken_in_variable unit kind before v ≡ []
  variable_none kind before v new h chain =
      let d = v.declaration in
      none_from (broken_in_own_name before d.name) _ (own_name_none before d.name new h.free)
      (none_from (broken_in_type unit d.ty) _ (none_if_false _ c.Name d.ty.at (not_from_true (knows unit d.ty.name) (knows_is unit d.ty.name apart ∙ h.known)))
      (none_from (broken_in_initial (known unit d.ty.name) d.initial) _ (initial_none unit d.ty.name d.initial h.initial)
      (none_from (broken_in_place kind (known unit d.ty.name) v) _ (none_if_false _ c.Types d.name.at (place_by (known unit d.ty.name) kind v (λ e. h.instance (instance_unnamed unit d.ty.name e)) h.in_out))
      (none_if_false _ c.Recursion d.name.at chain))))

  record VariableOf (kind : PouKind) (before : List Word) (v : Declared) : Type 0 where
    new : is_among before v.declaration.name ≡ false
    known : knows unit v.declaration.ty.name ≡ true
    ready : VariableIsReady unit kind (bare_variable v)
    chain : starts_chain max_instance_chain unit (bare_variable v) ≡ false

  variable_ready : (kind : PouKind) (before : List Word) (v : Declared) → broken_in_variable unit kind before v ≡ [] → VariableOf kind before v
  variable_ready kind before v h =
      let d = v.declaration in
      let first = parts_none (broken_in_own_name before d.name) _ h in
      let second = parts_none (broken_in_type unit d.ty) _ first.1 in
      let third = parts_none (broken_in_initial (known unit d.ty.name) d.initial) _ second.1 in
      let fourth = parts_none (broken_in_place kind (known unit d.ty.name) v) _ third.1 in
      let own = own_name_free before d.name first.0 in
      let k : knows unit d.ty.name ≡ true = not-false (knows unit d.ty.name) (false_if_none _ c.Name d.ty.at second.0) in
      let stands = or_parts (is_instance (known unit d.ty.name) && not (has_instances v)) (is_in_out v && is_program kind) (false_if_none _ c.Types d.name.at fourth.0) in
      record {
        new = own.0;
        known = k;
        ready = record {
          free = own.1;
          known = sym (knows_is unit d.ty.name apart) ∙ k;
          initial = initial_typed unit d.ty.name d.initial k third.0;
          instance = λ e. instance_from v (not-false (has_instances v) (let i = unnamed_instance unit d.ty.name k e in rw i at stands.0));
          in_out = in_out_from kind v stands.1;
        };
        chain = false_if_none _ c.Recursion d.name.at fourth.1;
      }

  variables_none : (kind : PouKind) (before : List Word) (vs : List Declared) → AllNew before (names_of vs) → Each (VariableIsReady unit kind) (map bare_variable vs) → NoneStarts max_instance_chain unit (map bare_variable vs) → broken_in_variables unit kind before vs ≡ []
  variables_none kind before [] new h chains = refl
  variables_none kind before (v ∷ vs) new h chains =
      none_from (broken_in_variable unit kind before v) _ (variable_none kind before v new.0 h.0 chains.0) (variables_none kind (before ++ v.declaration.name ∷ []) vs new.1 h.1 chains.1)

  record VariablesOf (kind : PouKind) (before : List Word) (vs : List Declared) : Type 0 where
    new : AllNew before (names_of vs)
    known : AreKnown unit (map bare_variable vs)
    ready : Each (VariableIsReady unit kind) (map bare_variable vs)
    chains : NoneStarts max_instance_chain unit (map bare_variable vs)

  variables_ready : (kind : PouKind) (before : List Word) (vs : List Declared) → broken_in_variables unit kind before vs ≡ [] → VariablesOf kind before vs
  variables_ready kind before [] h = record { new = tt; known = tt; ready = tt; chains = tt }
  variables_ready kind before (v ∷ vs) h =
      let halves = parts_none (broken_in_variable unit kind before v) _ h in
      let first = variable_ready kind before v halves.0 in
      let rest = variables_ready kind (before ++ v.declaration.name ∷ []) vs halves.1 in
      record { new = (first.new, rest.new); known = (first.known, rest.known); ready = (first.ready, rest.ready); chains = (first.chain, rest.chains) }

-- ---- the variables of instances

abbrev pin_variables : StdKind → List Variable
pin_variables k = variables_of (pin_blocks k)

pins_typed : (k : StdKind) → list_all (λ (v : Variable). is_some (type_named v.ty)) (pin_variables k) ≡ true
pins_typed kind.Ton = refl
pins_typed kind.Tof = refl
pins_typed kind.Tp = refl
pins_typed kind.Ctu = refl
pins_typed kind.Ctd = refl
pins_typed kind.Ctud = refl
pins_typed kind.Sr = refl
pins_typed kind.Rs = refl
pins_typed kind.RTrig = refl
pins_typed kind.FTrig = refl

pins_distinct : (k : StdKind) → are_distinct (map (λ (v : Variable). in_lower_case v.name) (pin_variables k)) ≡ true
pins_distinct kind.Ton = refl
pins_distinct kind.Tof = refl
pins_distinct kind.Tp = refl
pins_distinct kind.Ctu = refl
pins_distinct kind.Ctd = refl
pins_distinct kind.Ctud = refl
pins_distinct kind.Sr = refl
pins_distinct kind.Rs = refl
pins_distinct kind.RTrig = refl
pins_distinct kind.FTrig = refl

all_known : (unit : List PouText) (vs : List Variable) → list_all (λ (v : Variable). is_some (type_named v.ty)) vs ≡ true → AreKnown unit vs
all_known unit [] h = tt
all_known unit (v ∷ vs) h = let halves = and_parts (is_some (type_named v.ty)) (list_all (λ (w : Variable). is_some (type_named w.ty)) vs) h in (or_left _ _ halves.0, all_known unit vs halves.1)

-- what holds of the variables of standard blocks and of each POU holds of those of each instance
of_parts : (unit : List PouText) (P : List Variable → Type 0) → P [] → ((k : StdKind) → P (pin_variables k)) → Each (λ (p : PouText). P (variables_of p.blocks)) unit → (type : List ℕ) → P (parts (meaning (world_of unit) type))
of_parts unit P none pins pous type = by_type (type_named type) (kind_named type) (block_named (in_lower_case type) unit) refl
  where
    by_block : (o : Option PouText) → block_named (in_lower_case type) unit ≡ o → P (variables_of (elim o [ Some p ↦ p.blocks | None ↦ [] ]))
    by_block None e = none
    by_block (Some p) e = each_at (λ (q : PouText). P (variables_of q.blocks)) unit p pous (block_there (in_lower_case type) unit p e)

    by_kind : (k : Option StdKind) (o : Option PouText) → block_named (in_lower_case type) unit ≡ o → P (elim k [ Some j ↦ pin_variables j | None ↦ variables_of (elim o [ Some p ↦ p.blocks | None ↦ [] ]) ])
    by_kind (Some j) o e = pins j
    by_kind None o e = by_block o e

    by_type : (t : Option Ty) (k : Option StdKind) (o : Option PouText) → block_named (in_lower_case type) unit ≡ o
        → P (parts (elim t [ Some u ↦ Elementary u | None ↦ Composed (elim k [ Some j ↦ pin_variables j | None ↦ variables_of (elim o [ Some p ↦ p.blocks | None ↦ [] ]) ]) ]))
    by_type (Some u) k o e = none
    by_type None k o e = by_kind k o e

-- ---- units

-- the statements of a POU stand where the meaning has them
scope_is : (unit : List PouText) (p : Pou) → are_distinct (pou_names unit) ≡ true → scope_in (setting unit p) ≡ text.scope_of unit (bare_pou p)
scope_is unit p apart = ap (λ (w : World). let s : Scope = record { world = w; own = variables_of (bare_pou p).blocks } in s) (world_is unit apart)

size_is : (unit : List PouText) (vs : List Variable) → are_distinct (pou_names unit) ≡ true → size 18 (world_of unit) vs ≡ size 18 (text.world_of unit) vs
size_is unit vs apart = ap (λ (w : World). size 18 w vs) (world_is unit apart)

pou_none : (unit : List PouText) (before : List Word) (p : Pou) → are_distinct (pou_names unit) ≡ true → is_among before p.name ≡ false → PouIsReady unit (bare_pou p) → broken_in_pou unit before p ≡ []
pou_none unit before p apart new h =
    let vs = declared p in
    let is = variables_bare p in
    let distinct : are_distinct (keys (names_of vs)) ≡ true = ap are_distinct (sym (variable_keys vs) ∙ sym (ap (map (λ (v : Variable). in_lower_case v.name)) is)) ∙ h.distinct in
    let ready = subst (λ (ws : List Variable). Each (VariableIsReady unit p.kind) ws) is h.variables in
    let chains = subst (λ (ws : List Variable). NoneStarts max_instance_chain unit ws) is (nests_none unit apart max_instance_chain (bare_pou p) h.nests) in
    let body = each_of_map (StatementIsReady (text.scope_of unit (bare_pou p))) bare_statement p.body h.body in
    let same = scope_is unit p apart in
    let small : size 18 (world_of unit) (variables_of (bare_pou p).blocks) ≤ max_text_leaves = let e = size_is unit (variables_of (bare_pou p).blocks) apart in let k = h.small in omega arith in
    none_from (broken_in_own_name before p.name) _ (own_name_none before p.name new h.free)
    (none_from (broken_in_variables unit p.kind [] vs) _ (variables_none unit apart p.kind [] vs (apart_new [] (names_of vs) (record { distinct = distinct; others = none_before (names_of vs) })) ready chains)
    (none_from (broken_in_body (setting unit p) p) _
    (none_each (broken_in_statement (setting unit p)) p.body
    (each_weaker (λ (t : Statement). StatementIsReady (text.scope_of unit (bare_pou p)) (bare_statement t)) _ p.body
    (λ t ready-at. statement_none (setting unit p) t (subst (λ (k : Scope). StatementIsReady k (bare_statement t)) (sym same) ready-at)) body))
    (none_if_false _ c.Recursion p.name.at (and_right (not (has_chain unit)) (is_large unit (bare_pou p)) (le-ltb max_text_leaves _ small)))))

pous_none : (unit : List PouText) (before : List Word) (ps : List Pou) → are_distinct (pou_names unit) ≡ true → AllNew before (pou_words ps) → Each (PouIsReady unit) (bare ps) → broken_in_pous unit before ps ≡ []
pous_none unit before [] apart new h = refl
pous_none unit before (p ∷ ps) apart new h = none_from (broken_in_pou unit before p) _ (pou_none unit before p apart new.0 h.0) (pous_none unit (before ++ p.name ∷ []) ps apart new.1 h.1)

pub ready_none : (unit : List Pou) → IsReady (bare unit) → broken_in unit ≡ []
ready_none unit h =
    pous_none (bare unit) [] unit h.distinct (apart_new [] (pou_words unit) (record { distinct = ap are_distinct (sym (pou_keys unit)) ∙ h.distinct; others = none_before (pou_words unit) })) h.pous

-- what a POU that breaks nothing keeps
record PouOf (unit : List PouText) (before : List Word) (p : Pou) : Type 0 where
  new : is_among before p.name ≡ false
  free : is_listed p.name.name ≡ false
  variables : broken_in_variables unit p.kind [] (declared p) ≡ []
  body : Each (λ (t : Statement). broken_in_statement (setting unit p) t ≡ []) p.body
  size' : broken_in_size unit p ≡ []

pou_of : (unit : List PouText) (before : List Word) (p : Pou) → broken_in_pou unit before p ≡ [] → PouOf unit before p
pou_of unit before p h =
    let first = parts_none (broken_in_own_name before p.name) _ h in
    let second = parts_none (broken_in_variables unit p.kind [] (declared p)) _ first.1 in
    let third = parts_none (broken_in_body (setting unit p) p) _ second.1 in
    let own = own_name_free before p.name first.0 in
    record { new = own.0; free = own.1; variables = second.0; body = each_none (broken_in_statement (setting unit p)) p.body third.0; size' = third.1 }

-- and of each POU of a unit
record Kept (unit : List PouText) (p : Pou) : Type 0 where
  free : is_listed p.name.name ≡ false
  variables : broken_in_variables unit p.kind [] (declared p) ≡ []
  body : Each (λ (t : Statement). broken_in_statement (setting unit p) t ≡ []) p.body
  size' : broken_in_size unit p ≡ []

record AllKept (unit : List PouText) (before : List Word) (ps : List Pou) : Type 0 where
  new : AllNew before (pou_words ps)
  each : Each (Kept unit) ps

pous_of : (unit : List PouText) (before : List Word) (ps : List Pou) → broken_in_pous unit before ps ≡ [] → AllKept unit before ps
pous_of unit before [] h = record { new = tt; each = tt }
pous_of unit before (p ∷ ps) h =
    let halves = parts_none (broken_in_pou unit before p) _ h in
    let one = pou_of unit before p halves.0 in
    let rest = pous_of unit (before ++ p.name ∷ []) ps halves.1 in
    record { new = (one.new, rest.new); each = (record { free = one.free; variables = one.variables; body = one.body; size' = one.size' }, rest.each) }

each_to_map : {A B : Type 0} (P : B → Type 0) (f : A → B) (xs : List A) → Each (λ x. P (f x)) xs → Each P (map f xs)
each_to_map P f [] h = tt
each_to_map P f (x ∷ xs) h = (h.0, each_to_map P f xs h.1)

module _ (unit : List PouText) (apart : are_distinct (pou_names unit) ≡ true) where
  own_known : (p : Pou) → Kept unit p → AreKnown unit (variables_of (bare_pou p).blocks)
  own_known p h = subst (λ (ws : List Variable). AreKnown unit ws) (sym (variables_bare p)) (variables_ready unit apart p.kind [] (declared p) h.variables).known

  own_distinct : (p : Pou) → Kept unit p → are_distinct (map (λ (v : Variable). in_lower_case v.name) (variables_of (bare_pou p).blocks)) ≡ true
  own_distinct p h =
      ap are_distinct (ap (map (λ (v : Variable). in_lower_case v.name)) (variables_bare p) ∙ variable_keys (declared p))
      ∙ (new_apart [] (names_of (declared p)) (variables_ready unit apart p.kind [] (declared p) h.variables).new).distinct

  own_chains : (p : Pou) → Kept unit p → NoneStarts max_instance_chain unit (variables_of (bare_pou p).blocks)
  own_chains p h = subst (λ (ws : List Variable). NoneStarts max_instance_chain unit ws) (sym (variables_bare p)) (variables_ready unit apart p.kind [] (declared p) h.variables).chains

  pou_ready : (p : Pou) → Kept unit p → PartsAreKnown unit → PartsAreNamed unit → has_chain unit ≡ false → PouIsReady unit (bare_pou p)
  pou_ready p h known named chain =
      let same = scope_is unit p apart in
      let large : is_large unit (bare_pou p) ≡ false = (let test = false_if_none (not (has_chain unit) && is_large unit (bare_pou p)) c.Recursion p.name.at h.size' in rw chain at test) in
      record {
        free = h.free;
        distinct = own_distinct p h;
        variables = subst (λ (ws : List Variable). Each (VariableIsReady unit p.kind) ws) (sym (variables_bare p)) (variables_ready unit apart p.kind [] (declared p) h.variables).ready;
        body =
            each_to_map (StatementIsReady (text.scope_of unit (bare_pou p))) bare_statement p.body
            (each_weaker (λ (t : Statement). broken_in_statement (setting unit p) t ≡ []) _ p.body
            (λ t none. subst (λ (k : Scope). StatementIsReady k (bare_statement t)) same (statement_ready (setting unit p) t (own_known p h) known named none)) h.body);
        nests = none_nests unit apart max_instance_chain (bare_pou p) (own_chains p h);
        small = let k = ltb-false max_text_leaves (size 18 (world_of unit) (variables_of (bare_pou p).blocks)) large in let e = size_is unit (variables_of (bare_pou p).blocks) apart in omega arith;
      }

  pous_ready : (ps : List Pou) → Each (Kept unit) ps → PartsAreKnown unit → PartsAreNamed unit → has_chain unit ≡ false → Each (PouIsReady unit) (bare ps)
  pous_ready [] h known named chain = tt
  pous_ready (p ∷ ps) h known named chain = (pou_ready p h.0 known named chain, pous_ready ps h.1 known named chain)

  each_bare : (P : PouText → Type 0) → ((p : Pou) → Kept unit p → P (bare_pou p)) → (ps : List Pou) → Each (Kept unit) ps → Each P (bare ps)
  each_bare P f [] h = tt
  each_bare P f (p ∷ ps) h = (f p h.0, each_bare P f ps h.1)

pub none_ready : (unit : List Pou) → broken_in unit ≡ [] → IsReady (bare unit)
none_ready unit h =
    let all = pous_of (bare unit) [] unit h in
    let apart : are_distinct (pou_names (bare unit)) ≡ true = ap are_distinct (pou_keys unit) ∙ (new_apart [] (pou_words unit) all.new).distinct in
    let known : PartsAreKnown (bare unit) = of_parts (bare unit) (AreKnown (bare unit)) tt (λ k. all_known (bare unit) (pin_variables k) (pins_typed k)) (each_bare (bare unit) apart (λ (p : PouText). AreKnown (bare unit) (variables_of p.blocks)) (own_known (bare unit) apart) unit all.each) in
    let named : PartsAreNamed (bare unit)
    = of_parts (bare unit) AreNamed tt (λ k. named_each (pin_variables k) (pins_distinct k)) (each_bare (bare unit) apart (λ (p : PouText). AreNamed (variables_of p.blocks)) (λ p k. named_each (variables_of (bare_pou p).blocks) (own_distinct (bare unit) apart p k)) unit all.each) in
    let chain : has_chain (bare unit) ≡ false
    = none_pass (λ (p : PouText). list_any (starts_chain max_instance_chain (bare unit)) (variables_of p.blocks)) (bare unit) (each_bare (bare unit) apart (λ (p : PouText). list_any (starts_chain max_instance_chain (bare unit)) (variables_of p.blocks) ≡ false)
    (λ p k. none_pass (starts_chain max_instance_chain (bare unit)) (variables_of (bare_pou p).blocks) (own_chains (bare unit) apart p k)) unit all.each) in
    record { distinct = apart; pous = pous_ready (bare unit) apart unit all.each known named chain }
