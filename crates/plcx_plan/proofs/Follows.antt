-- What follows of the plan of a file.
use Rattle.std.proofs.Common.{◌≡◌, ◌≤◌, ◌<◌, ◌+◌, ℕ, zero, suc, Bool, true, false, ◌||◌, cond, List, [], ◌∷◌, length, Some, slice_get, refl, sym, ap, subst, arith}
use Rattle.std.specs.List.{All, AllPairs, AllZip, list_any, position_from}
use Rattle.std.specs.Prelude.{codes}
use Rattle.std.proofs.lemmas.Bool.{and_parts}
use Rattle.std.proofs.lemmas.List.Kept.{AllPairs-cons}
use Rattle.std.proofs.lemmas.Slice.Eq.{bytes_eq-Decides}
use Rattle.plcx_types.specs.Lists.{Each}
use Rattle.plcx_types.specs.Name.{in_lower_case}
use Rattle.plcx_xml.specs.declared.tree.Element.{Element}
use Rattle.plcx_model.specs.declared.project.PouKind.{PouKind}
use Rattle.plcx_model.specs.declared.project.PouKind.TheVariants.{Program, FunctionBlock}
use Rattle.plcx_model.specs.declared.project.Pou.{Pou}
use Rattle.plcx_model.specs.declared.project.Project.{Project}
use Rattle.plcx_tasks.specs.declared.planning.Instance.{Instance}
use Rattle.plcx_tasks.specs.declared.planning.TaskPlan.{TaskPlan}
use Rattle.plcx_tasks.specs.Orders.{IsPlan}
use Rattle.plcx_plan.specs.declared.condition.Role.{Role}
use Rattle.plcx_plan.specs.declared.condition.Role.TheVariants as role
use Rattle.plcx_plan.specs.Attributes.{value_once, is_called}
use Rattle.plcx_plan.specs.Items.{Item, elements}
use Rattle.plcx_plan.specs.Conditions.{Placed, IsTaskAt, is_program, is_program_named, program_at}
use Rattle.plcx_plan.specs.Plans.{placed_as, IsInstanceAt, IsPlanned, HasProgram, DifferInName}

pub each_all : {A : Type 0} (P : A → Type 0) (xs : List A) → Each P xs → All P xs
each_all P [] e k d h = absurd (omega arith)
each_all P (x ∷ xs) e zero d h = e.0
each_all P (x ∷ xs) e (suc k) d h = each_all P xs e.1 k d (omega arith)

-- what holds of each second one
each_second : {A B : Type 0} (R : A → B → Type 0) (Q : B → Type 0) (ls : List A) (xs : List B) → ((a : A) (b : B) → R a b → Q b) → AllZip R ls xs → Each Q xs
each_second R Q [] [] f h = tt
each_second R Q [] (x ∷ xs) f h = absurd h
each_second R Q (a ∷ ls) [] f h = absurd h
each_second R Q (a ∷ ls) (x ∷ xs) f h = (f a x h.0, each_second R Q ls xs f h.1)

zip_length : {A B : Type 0} (R : A → B → Type 0) (ls : List A) (xs : List B) → AllZip R ls xs → length xs ≡ length ls
zip_length R [] [] h = refl
zip_length R [] (x ∷ xs) h = absurd h
zip_length R (a ∷ ls) [] h = absurd h
zip_length R (a ∷ ls) (x ∷ xs) h = ap suc (zip_length R ls xs h.1)

-- what is found by its name passes the test
passes_from : (t : Pou → Bool) (n : ℕ) (ps : List Pou) (i : ℕ) → position_from t n ps ≡ Some i → (k : ℕ) × (i ≡ n + k) × ((p : Pou) → slice_get ps k ≡ Some p → t p ≡ true)
passes_from t n [] i h = absurd (cc)
passes_from t n (p ∷ ps) i h = by (t p) refl (passes_from t (n + 1) ps i) h
  where
    by : (b : Bool) → t p ≡ b → (position_from t (n + 1) ps ≡ Some i → (k : ℕ) × (i ≡ n + 1 + k) × ((q : Pou) → slice_get ps k ≡ Some q → t q ≡ true))
        → cond b (Some n) (position_from t (n + 1) ps) ≡ Some i → (k : ℕ) × (i ≡ n + k) × ((q : Pou) → slice_get (p ∷ ps) k ≡ Some q → t q ≡ true)
    by true is behind found = let same : n ≡ i = cc in (0, omega (arith, same), λ q at. let one : p ≡ q = cc in subst (λ x. t x ≡ true) one is)
    by false is behind found = let rest = behind found in (suc rest.0, (let moved = rest.1 in omega (arith, moved)), λ q at. rest.2 q at)

passes : (t : Pou → Bool) (ps : List Pou) (i : ℕ) (p : Pou) → position_from t 0 ps ≡ Some i → slice_get ps i ≡ Some p → t p ≡ true
passes t ps i p h there =
    let f = passes_from t 0 ps i h in
    let moved = f.1 in
    let same : i ≡ f.0 = omega (arith, moved) in
    f.2 p (subst (λ k. slice_get ps k ≡ Some p) same there)

program_kind : (k : PouKind) → is_program k ≡ true → k ≡ Program
program_kind Program h = refl
program_kind FunctionBlock h = cc

has_program : (project : Project) (p : Placed) (x : Instance) → IsInstanceAt project p x → HasProgram project x
unfolding program_at
has_program project p x i =
    let of = i.program in
    let passed = passes (is_program_named (in_lower_case of.name)) project.pous of.place i.pou of.found of.there in
    record { pou = i.pou; place = of.place; there = of.there; program = program_kind i.pou.kind (and_parts _ _ passed).0; named = sym i.program_is }

pub programs : (project : Project) (items : List Item) (plan : TaskPlan) → IsPlanned project items plan → Each (HasProgram project) plan.instances
programs project items plan planned = each_second (IsInstanceAt project) (HasProgram project) (placed_as role.Instance [] items) plan.instances (has_program project) planned.instances

-- the task of each instance is one of those before it
abbrev Within : Project → List Item → List Item → Type 0
Within project before items = (xs : List Instance) (n : ℕ) → length (elements role.Task before) + length (placed_as role.Task before items) ≤ n
    → AllZip (IsInstanceAt project) (placed_as role.Instance before items) xs → Each (λ (x : Instance). x.task < n) xs

abbrev item : Role → Element → Item
item r e = record { role = r; element = e }

within_one : (project : Project) (before items : List Item) (r : Role) (e : Element) → Within project (item r e ∷ before) items → Within project before (item r e ∷ items)
within_one project before items role.Root e more xs n h zip = more xs n h zip
within_one project before items role.Resource e more xs n h zip = more xs n h zip
within_one project before items role.Other e more xs n h zip = more xs n h zip
within_one project before items role.Task e more xs n h zip = more xs n (omega arith) zip
within_one project before items role.Instance e more [] n h zip = absurd zip
within_one project before items role.Instance e more (x ∷ xs) n h zip = let task = zip.0.task in (omega arith, more xs n h zip.1)

within : (project : Project) (before items : List Item) → Within project before items
within project before [] [] n h zip = tt
within project before [] (x ∷ xs) n h zip = absurd zip
within project before (x ∷ items) xs n h zip = within_one project before items x.role x.element (within project (x ∷ before) items) xs n h zip

pub is_plan : (project : Project) (items : List Item) (plan : TaskPlan) → IsPlanned project items plan → length plan.instances ≤ 16 → IsPlan plan
is_plan project items plan planned few =
    let same = zip_length IsTaskAt (placed_as role.Task [] items) plan.tasks planned.tasks in
    record { tasks = within project [] items plan.instances (length plan.tasks) (omega arith) planned.instances; few = omega arith }

not_both : (b : Bool) → b ≡ true → b ≡ false → ⊥
not_both true h k = cc
not_both false h k = cc

or_second : (a b : Bool) → b ≡ true → (a || b) ≡ true
or_second true b h = refl
or_second false b h = h

or_first : (a b : Bool) → a ≡ true → (a || b) ≡ true
or_first true b h = refl
or_first false b h = cc

-- a name that has stood is that of no later instance
abbrev Fresh : Project → List Item → List Item → Type 0
Fresh project before items = (xs : List Instance) (key : List ℕ) → list_any (is_called key) (elements role.Instance before) ≡ true
    → AllZip (IsInstanceAt project) (placed_as role.Instance before items) xs → Each (λ (x : Instance). key ≡ in_lower_case x.name → ⊥) xs

fresh_one : (project : Project) (before items : List Item) (r : Role) (e : Element) → Fresh project (item r e ∷ before) items → Fresh project before (item r e ∷ items)
fresh_one project before items role.Root e more xs key h zip = more xs key h zip
fresh_one project before items role.Resource e more xs key h zip = more xs key h zip
fresh_one project before items role.Other e more xs key h zip = more xs key h zip
fresh_one project before items role.Task e more xs key h zip = more xs key h zip
fresh_one project before items role.Instance e more [] key h zip = absurd zip
fresh_one project before items role.Instance e more (x ∷ xs) key h zip = (
  (λ same. not_both (list_any (is_called (in_lower_case x.name)) (elements role.Instance before)) (subst (λ k. list_any (is_called k) (elements role.Instance before) ≡ true) same h) zip.0.named.free),
  more xs key (or_second (is_called key e) (list_any (is_called key) (elements role.Instance before)) h) zip.1,
)

fresh : (project : Project) (before items : List Item) → Fresh project before items
fresh project before [] [] key h zip = tt
fresh project before [] (x ∷ xs) key h zip = absurd zip
fresh project before (x ∷ items) xs key h zip = fresh_one project before items x.role x.element (fresh project (x ∷ before) items) xs key h zip

called : (e : Element) (name : List ℕ) → value_once (codes "name") e ≡ Some name → is_called (in_lower_case name) e ≡ true
called e name is = rw is ((bytes_eq-Decides (in_lower_case name) (in_lower_case name)).1 refl)

abbrev Apart : Project → List Item → List Item → Type 0
Apart project before items = (xs : List Instance) → AllZip (IsInstanceAt project) (placed_as role.Instance before items) xs → AllPairs DifferInName xs

apart_one : (project : Project) (before items : List Item) (r : Role) (e : Element) → Apart project (item r e ∷ before) items → Apart project before (item r e ∷ items)
apart_one project before items role.Root e more xs zip = more xs zip
apart_one project before items role.Resource e more xs zip = more xs zip
apart_one project before items role.Other e more xs zip = more xs zip
apart_one project before items role.Task e more xs zip = more xs zip
apart_one project before items role.Instance e more [] zip = absurd zip
apart_one project before items role.Instance e more (x ∷ xs) zip =
    let stood = or_first (is_called (in_lower_case x.name) e) (list_any (is_called (in_lower_case x.name)) (elements role.Instance before)) (called e x.name zip.0.named.is.value) in
    let later = fresh project (item role.Instance e ∷ before) items xs (in_lower_case x.name) stood zip.1 in
    AllPairs-cons DifferInName x xs (each_all (DifferInName x) xs later) (more xs zip.1)

none_apart : AllPairs DifferInName []
none_apart i j d h k = absurd (omega arith)

apart : (project : Project) (before items : List Item) → Apart project before items
apart project before [] [] zip = none_apart
apart project before [] (x ∷ xs) zip = absurd zip
apart project before (x ∷ items) xs zip = apart_one project before items x.role x.element (apart project (x ∷ before) items) xs zip

pub names : (project : Project) (items : List Item) (plan : TaskPlan) → IsPlanned project items plan → AllPairs DifferInName plan.instances
names project items plan planned = apart project [] items plan.instances planned.instances
