-- A file has one plan, or one first fault.
use Rattle.std.proofs.Common.{◌≡◌, ◌≤◌, ◌^◌, ℕ, ℤ, pos, List, [], ◌∷◌, Option, Some, None, refl, sym, ap, arith, ◌∙◌, subst}
use Rattle.std.specs.List.{AllZip}
use Rattle.plcx_types.specs.declared.ty.Ty.TheVariants as ty
use Rattle.plcx_types.specs.Literal.{value}
use Rattle.plcx_types.specs.ReadLiteral.{value_of}
use Rattle.plcx_types.specs.Value.{Value}
use Rattle.plcx_types.proofs.Literals.{value_reads}
use Rattle.plcx_xml.specs.declared.tree.Element.{Element}
use Rattle.plcx_xml.specs.declared.tree.Node.{Node}
use Rattle.plcx_xml.specs.declared.tree.Node.TheOpen.{Node-F}
use Rattle.plcx_model.specs.declared.project.Pou.{Pou}
use Rattle.plcx_model.specs.declared.project.Project.{Project}
use Rattle.plcx_tasks.specs.declared.planning.Task.{Task}
use Rattle.plcx_tasks.specs.declared.planning.Instance.{Instance}
use Rattle.plcx_tasks.specs.declared.planning.TaskPlan.{TaskPlan}
use Rattle.plcx_plan.specs.declared.condition.TaskKind.{TaskKind}
use Rattle.plcx_plan.specs.Intervals.{IsLength, seconds, literal, IsInterval}
use Rattle.plcx_plan.specs.Items.{Item, items_in}
use Rattle.plcx_plan.specs.Conditions.{Placed, Check, IsTask, IsTaskAt, IsOfProgram, checks_of, FirstFault, Kept, Here, Later}
use Rattle.plcx_plan.specs.Plans.{IsInstanceAt, IsPlanned, StandsForPlan, IsFaultOf}
use Rattle.plcx_plan.proofs.Seconds.{seconds_read}
use Rattle.plcx_plan.proofs.NoLiteral.{no_literal}

pub one_verdict : (project : Project) (all : List Item) (cs : List Check) (v w : Option (TaskKind × ℕ)) → FirstFault project all cs v → FirstFault project all cs w → v ≡ w
one_verdict project all [] _ _ Kept Kept = refl
one_verdict project all (c ∷ cs) _ _ (Here p) (Here q) = refl
one_verdict project all (c ∷ cs) _ w (Here p) (Later past q) = absurd (past p)
one_verdict project all (c ∷ cs) v _ (Later past p) (Here q) = absurd (past q)
one_verdict project all (c ∷ cs) v w (Later past p) (Later behind q) = one_verdict project all cs v w p q

pub same_value : (o : Option Value) (a b : ℕ) → o ≡ Some (value ty.Time (pos a)) → o ≡ Some (value ty.Time (pos b)) → a ≡ b
same_value o a b p q =
    let same : value ty.Time (pos a) ≡ value ty.Time (pos b) = cc in
    let number : pos a ≡ pos b = ap (λ (v : Value). v.n) same in
    cc

one_length : (text : List ℕ) (a b : ℕ) → a ≤ 2 ^ 62 → b ≤ 2 ^ 62 → IsLength text a → IsLength text b → a ≡ b
one_length text a b few less (seconds p) (seconds q) = let x = seconds_read text a p few in let y = seconds_read text b q less in cc
one_length text a b few less (seconds p) (literal q) = absurd (no_literal text a (value ty.Time (pos b)) p q)
one_length text a b few less (literal p) (seconds q) = absurd (no_literal text b (value ty.Time (pos a)) q p)
one_length text a b few less (literal p) (literal q) = same_value (value_of ty.Time text) a b (value_reads ty.Time text (value ty.Time (pos a)) p) (value_reads ty.Time text (value ty.Time (pos b)) q)

one_interval : (text : List ℕ) (a b : ℕ) → IsInterval text a → IsInterval text b → a ≡ b
one_interval text a b p q = one_length text a b p.within q.within p.is q.is

same_task : (n m : List ℕ) (p q : ℕ) (i j : ℤ) → n ≡ m → p ≡ q → i ≡ j → ◌≡◌ {A = Task} (record { name = n; priority = p; interval = i }) (record { name = m; priority = q; interval = j })
same_task n m p q i j e f g = cc

one_task : (e : Element) (a b : Task) → IsTask e a → IsTask e b → a ≡ b
one_task e a b p q =
    let name : a.name ≡ b.name = let x = p.named.value in let y = q.named.value in cc in
    let priority : a.priority ≡ b.priority = let x = p.priority in let y = q.priority in cc in
    let text : p.text ≡ q.text = let x = p.value in let y = q.value in cc in
    let ms : p.ms ≡ q.ms = one_interval q.text p.ms q.ms (subst (λ t. IsInterval t p.ms) text p.interval) q.interval in
    let interval : a.interval ≡ b.interval = p.interval_is ∙ ap pos ms ∙ sym q.interval_is in
    same_task a.name b.name a.priority b.priority a.interval b.interval name priority interval

one_program : (pous : List Pou) (e : Element) (a b : Pou) → IsOfProgram pous e a → IsOfProgram pous e b → a ≡ b
one_program pous e a b p q =
    let name : p.name ≡ q.name = let x = p.value in let y = q.value in cc in
    let found = p.found in
    let again = q.found in
    let place : p.place ≡ q.place = cc in
    let there = p.there in
    let also = q.there in
    cc

same_instance : (n m p q : List ℕ) (t u : ℕ) → n ≡ m → p ≡ q → t ≡ u → ◌≡◌ {A = Instance} (record { name = n; program = p; task = t }) (record { name = m; program = q; task = u })
same_instance n m p q t u e f g = cc

one_instance : (project : Project) (p : Placed) (a b : Instance) → IsInstanceAt project p a → IsInstanceAt project p b → a ≡ b
one_instance project p a b i j =
    let name : a.name ≡ b.name = let x = i.named.is.value in let y = j.named.is.value in cc in
    let pou : i.pou ≡ j.pou = one_program project.pous p.item.element i.pou j.pou i.program j.program in
    let program : a.program ≡ b.program = i.program_is ∙ ap (λ (x : Pou). x.name) pou ∙ sym j.program_is in
    let x = i.task in
    let y = j.task in
    let task : a.task ≡ b.task = omega arith in
    same_instance a.name b.name a.program b.program a.task b.task name program task

one_list : {A B : Type 0} (R : A → B → Type 0) → ((p : A) (x y : B) → R p x → R p y → x ≡ y) → (ls : List A) (xs ys : List B) → AllZip R ls xs → AllZip R ls ys → xs ≡ ys
one_list R one [] [] [] h k = refl
one_list R one [] (x ∷ xs) ys h k = absurd h
one_list R one [] [] (y ∷ ys) h k = absurd k
one_list R one (p ∷ ls) [] ys h k = absurd h
one_list R one (p ∷ ls) (x ∷ xs) [] h k = absurd k
one_list R one (p ∷ ls) (x ∷ xs) (y ∷ ys) h k = let first = one p x y h.0 k.0 in let rest = one_list R one ls xs ys h.1 k.1 in cc

same_plan : (t u : List Task) (x y : List Instance) → t ≡ u → x ≡ y → ◌≡◌ {A = TaskPlan} (record { tasks = t; instances = x }) (record { tasks = u; instances = y })
same_plan t u x y e f = cc

pub one_planned : (project : Project) (items : List Item) (a b : TaskPlan) → IsPlanned project items a → IsPlanned project items b → a ≡ b
one_planned project items a b p q =
    let tasks : a.tasks ≡ b.tasks = one_list IsTaskAt (λ l x y i j. one_task l.item.element x y i.is j.is) _ a.tasks b.tasks p.tasks q.tasks in
    let instances : a.instances ≡ b.instances = one_list (IsInstanceAt project) (one_instance project) _ a.instances b.instances p.instances q.instances in
    same_plan a.tasks b.tasks a.instances b.instances tasks instances

pub plan_is_one : (root : Node-F Node Element) (project : Project) (a b : TaskPlan) → StandsForPlan root project a → StandsForPlan root project b → a ≡ b
plan_is_one (Node-F.Element root) project a b p q = one_planned project (items_in root) a b p.planned q.planned
plan_is_one (Node-F.Text t) project a b p q = absurd p

pair_is : (p q : TaskKind × ℕ) → Some p ≡ Some q → (p.0 ≡ q.0) × (p.1 ≡ q.1)
pair_is p q h = let same : p ≡ q = cc in (ap (λ (x : TaskKind × ℕ). x.0) same, ap (λ (x : TaskKind × ℕ). x.1) same)

pub fault_is_one : (root : Node-F Node Element) (project : Project) (k j : TaskKind) (at by : ℕ) → IsFaultOf root project k at → IsFaultOf root project j by → (k ≡ j) × (at ≡ by)
fault_is_one (Node-F.Element root) project k j at by p q = pair_is (k, at) (j, by) (one_verdict project (items_in root) (checks_of [] (items_in root)) (Some (k, at)) (Some (j, by)) p q)
fault_is_one (Node-F.Text t) project k j at by p q = (p.0 ∙ sym q.0, p.1 ∙ sym q.1)

none_some : {A : Type 0} (a : A) → Some a ≡ None → ⊥
none_some a h = cc

pub no_plan_with : (root : Node-F Node Element) (project : Project) (k : TaskKind) (at : ℕ) (plan : TaskPlan) → IsFaultOf root project k at → StandsForPlan root project plan → ⊥
no_plan_with (Node-F.Element root) project k at plan p q = none_some (k, at) (one_verdict project (items_in root) (checks_of [] (items_in root)) (Some (k, at)) None p q.verdict)
no_plan_with (Node-F.Text t) project k at plan p q = q
