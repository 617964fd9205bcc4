-- A file in form: its draft is in form.
use Rattle.std.proofs.Common.{◌≡◌, ℕ, suc, ◌≤◌, Bool, true, false, cond, List, length, Option, Some, None, option_map, option_and_then, codes, refl, ap, subst, ◌∙◌, arith}
use Rattle.std.specs.Str.{bytes_eq}
use Rattle.plcx_types.specs.Limits.{max_element_depth}
use Rattle.plcx_types.specs.Lists.{Each}
use Rattle.plcx_types.specs.Limits.{max_pous, max_variables}
use Rattle.plcx_model.specs.declared.project.PouKind.{PouKind}
use Rattle.plcx_model.specs.declared.project.PouKind.TheVariants as kind
use Rattle.plcx_xml.specs.Look.{name_of}
use Rattle.plcx_xml.specs.declared.tree.Element.{Element}
use Rattle.plcx_table.specs.declared.row.Row.TheVariants as row
use Rattle.plcx_table.specs.declared.row.Fate.{Fate}
use Rattle.plcx_table.specs.declared.row.Fate.TheVariants.{Read, Refused, Misplaced}
use Rattle.plcx_table.specs.declared.row.Taken.{Taken}
use Rattle.plcx_table.specs.Constructs.{attribute_of, or_empty}
use Rattle.plcx_table.specs.Format.{root_fate, looked_at, FormatVerdict}
use Rattle.plcx_table.specs.Limits.{no_counts}
use Rattle.plcx_table.specs.Table.{Child}
use Rattle.plcx_table.specs.Walk.{child_for, fate_for, fate_of, is_aside, items, first, values_of, is_value}
use Rattle.plcx_draft.specs.DraftIn.{kind_of, pou_in, draft_in}
use Rattle.plcx_draft.specs.Parts.{parts_of, parts_in, first_child}
use Rattle.plcx_draft.specs.declared.draft.DraftPou.{DraftPou}
use Rattle.plcx_sound.proofs.Formed.{FormedPou}
use Rattle.plcx_sound.proofs.Walked.{Good, good_here, good_file, GoodFile, IsGood, if_some, option_weight, parts_hold, parts_counted, fate_is, IsTold, child_holds, child_light, count}
use Rattle.plcx_sound.proofs.Ranks.{is_variable, few_variables, is_pou, few_pous}
use Rattle.plcx_sound.proofs.Interfaces.{pou_row, lists_formed, lists_counted}
use Rattle.plcx_sound.proofs.Bodies.{five, body_sound}

body_told : (k : PouKind) → IsTold (pou_row k) (codes "body") (Read row.Body)
unfolding is_aside child_for
body_told kind.Program = record { text = refl; aside = refl; told = λ e is. rw is refl }
body_told kind.FunctionBlock = record { text = refl; aside = refl; told = λ e is. rw is refl }

abbrev eight : ℕ → ℕ
eight n = suc (suc (suc (five n)))

variables_few : (k : PouKind) (n : ℕ) (e : Element) → Good (items (suc n) (Read (pou_row k)) e) → count is_variable (items (suc n) (Read (pou_row k)) e) ≤ max_variables
variables_few kind.Program n e h = few_variables n row.Program e refl refl (λ c. refl) h
variables_few kind.FunctionBlock n e h = few_variables n row.FunctionBlock e refl refl (λ c. refl) h

-- what a POU is read as
abbrev fate_by : Option (List ℕ) → Fate
fate_by v = cond (is_value (codes "function") v) (Refused row.Function) (cond (is_value (codes "program") v) (Read row.Program) (Read row.FunctionBlock))

among : (a b : Bool) (x y z : Child) → option_map (λ (c : Child). c.fate) (cond a (Some x) (cond b (Some y) (Some z))) ≡ Some (cond a x.fate (cond b y.fate z.fate))
among true b x y z = refl
among false true x y z = refl
among false false x y z = refl

pou_told : (e : Element) → name_of e ≡ codes "pou" → fate_for row.Pous e ≡ Some (fate_by (first (values_of (codes "pouType") e)))
unfolding child_for values_of
pou_told e is = rw is (among (is_value (codes "function") (first (values_of (codes "pouType") e))) (is_value (codes "program") (first (values_of (codes "pouType") e))) _ _ _)

row_by : (a b : Bool) (text : List ℕ) (e : Element) → bytes_eq text (codes "program") ≡ b → IsGood (cond a (Refused row.Function) (cond b (Read row.Program) (Read row.FunctionBlock))) e
    → cond a (Refused row.Function) (cond b (Read row.Program) (Read row.FunctionBlock)) ≡ Read (pou_row (kind_of text))
row_by true b text e is h = absurd h
row_by false true text e is h = rw is refl
row_by false false text e is h = rw is refl

value_row : (v : Option (List ℕ)) (e : Element) → IsGood (fate_by v) e → fate_by v ≡ Read (pou_row (kind_of (or_empty v)))
value_row None e h = refl
value_row (Some w) e h = row_by (bytes_eq w (codes "function")) (bytes_eq w (codes "program")) w e refl h

aside_pou : (e : Element) → name_of e ≡ codes "pou" → is_aside (name_of e) ≡ false
unfolding is_aside
aside_pou e is = rw is refl

pou_fate : (n : ℕ) (e : Element) (t : Taken) → name_of e ≡ codes "pou" → Good (items (suc n) (fate_of row.Pous t e) e) → fate_of row.Pous t e ≡ Read (pou_row (kind_of (attribute_of (codes "pouType") e)))
unfolding attribute_of
pou_fate n e t is h =
    let v = first (values_of (codes "pouType") e) in
    let fate = fate_is n row.Pous t e (fate_by v) refl (aside_pou e is) (pou_told e is) h in
    fate ∙ value_row v e (subst (λ f. IsGood f e) fate (good_here n (fate_of row.Pous t e) e h))

is_pou_row : (k : PouKind) → is_pou (Read (pou_row k)) ≡ true
is_pou_row kind.Program = refl
is_pou_row kind.FunctionBlock = refl

pou_counts : (n : ℕ) (e : Element) (p : DraftPou) (t : Taken) → pou_in e ≡ Some p → Good (items (suc n) (fate_of row.Pous t e) e) → is_pou (fate_of row.Pous t e) ≡ true
unfolding pou_in
pou_counts n e p t some h =
    let is = (if_some e (codes "pou") _ p some).1 in
    ap is_pou (pou_fate n e t is h) ∙ is_pou_row (kind_of (attribute_of (codes "pouType") e))

pou_formed : (n : ℕ) (e : Element) (p : DraftPou) (t : Taken) → pou_in e ≡ Some p → Good (items (eight n) (fate_of row.Pous t e) e) → FormedPou p
unfolding pou_in
pou_formed n e p t some h =
    let got = if_some e (codes "pou") _ p some in
    let k = kind_of (attribute_of (codes "pouType") e) in
    let good : Good (items (eight n) (Read (pou_row k)) e) = subst (λ f. Good (items (eight n) f e)) (pou_fate (suc (suc (five n))) e t got.1 h) h in
    subst FormedPou got.0 (record {
      lists = lists_formed k (suc (suc (suc (suc n)))) e good;
      variables = omega (arith, lists_counted k (suc (suc (suc (suc n)))) e good, variables_few k (suc (suc (five n))) e good);
      body = body_sound (pou_row k) (body_told k) n e good;
    })

abbrev nine : ℕ → ℕ
nine n = suc (eight n)

pous_formed : (n : ℕ) (e : Element) → Good (items (nine n) (Read row.Pous) e) → Each FormedPou (parts_of pou_in e)
pous_formed n e h = parts_hold (eight n) row.Pous pou_in FormedPou (pou_formed n) e h

pous_counted : (n : ℕ) (e : Element) → Good (items (suc (suc n)) (Read row.Pous) e) → length (parts_of pou_in e) ≤ count is_pou (items (suc (suc n)) (Read row.Pous) e)
pous_counted n e h = parts_counted pou_in n row.Pous is_pou (pou_counts n) e h

-- the way to the POUs
types_told : IsTold row.Project (codes "types") (Read row.Types)
unfolding is_aside child_for
types_told = record { text = refl; aside = refl; told = λ e is. rw is refl }

pous_told : IsTold row.Types (codes "pous") (Read row.Pous)
unfolding is_aside child_for
pous_told = record { text = refl; aside = refl; told = λ e is. rw is refl }

abbrev pous_in : Option Element → List DraftPou
pous_in o = parts_in pou_in (option_and_then (first_child (codes "pous")) o)

types_formed : (n : ℕ) (e : Element) → Good (items (suc (nine n)) (Read row.Types) e) → Each FormedPou (pous_in (Some e))
types_formed n e h = go (first_child (codes "pous") e) refl
  where
    go : (o : Option Element) → first_child (codes "pous") e ≡ o → Each FormedPou (parts_in pou_in o)
    go None is = tt
    go (Some p) is = child_holds row.Types (codes "pous") (Read row.Pous) pous_told (eight n) (λ q. Each FormedPou (parts_of pou_in q)) (pous_formed n) e h p is

project_formed : (n : ℕ) (e : Element) → Good (items (suc (suc (nine n))) (Read row.Project) e) → Each FormedPou (draft_in e).pous
unfolding draft_in
project_formed n e h = go (first_child (codes "types") e) refl
  where
    go : (o : Option Element) → first_child (codes "types") e ≡ o → Each FormedPou (pous_in o)
    go None is = tt
    go (Some t) is = child_holds row.Project (codes "types") (Read row.Types) types_told (nine n) (λ u. Each FormedPou (pous_in (Some u))) (types_formed n) e h t is

abbrev pous_weight : Element → ℕ
pous_weight e = length (parts_of pou_in e)

abbrev types_weight : Element → ℕ
types_weight e = option_weight pous_weight (first_child (codes "pous") e)

weight_of : (o : Option Element) → length (parts_in pou_in o) ≡ option_weight pous_weight o
weight_of None = refl
weight_of (Some e) = refl

weight_in : (o : Option Element) → length (pous_in o) ≡ option_weight types_weight o
weight_in None = refl
weight_in (Some e) = weight_of (first_child (codes "pous") e)

project_counted : (n : ℕ) (e : Element) → Good (items (suc (suc (suc (suc n)))) (Read row.Project) e) → length (draft_in e).pous ≤ count is_pou (items (suc (suc (suc (suc n)))) (Read row.Project) e)
unfolding draft_in
project_counted n e h =
    let light = child_light row.Project (codes "types") (Read row.Types) types_told (suc (suc n)) is_pou types_weight
    (λ t g. child_light row.Types (codes "pous") (Read row.Pous) pous_told (suc n) is_pou pous_weight (pous_counted n) t g) e h in
    omega (arith, light, weight_in (first_child (codes "types") e))

-- the root
root_is : (root : Element) (b : Bool) → bytes_eq (name_of root) (codes "project") ≡ b → GoodFile root → root_fate root ≡ Read row.Project
unfolding root_fate items looked_at
root_is root true is h = rw is refl
root_is root false is h = absurd (let misplaced = subst (λ (c : Bool). IsGood (cond c (Read row.Project) Misplaced) root) is h.good.0 in misplaced)

pub record DraftIsFormed (root : Element) : Type 0 where
  pub formed : Each FormedPou (draft_in root).pous
  pub few : length (draft_in root).pous ≤ max_pous

pub draft_formed : (root : Element) → FormatVerdict root None → DraftIsFormed root
unfolding looked_at
draft_formed root verdict =
    let file = good_file root verdict in
    let fate = root_is root (bytes_eq (name_of root) (codes "project")) refl file in
    let good : Good (looked_at root) = record { all = file.good; start = no_counts; few = file.few } in
    let read : Good (items max_element_depth (Read row.Project) root) = subst (λ f. Good (items max_element_depth f root)) fate good in
    let counted = project_counted 60 root read in
    record {
      formed = project_formed 53 root read;
      few = omega (arith, counted, few_pous (looked_at root) file.few, ap (λ f. count is_pou (items max_element_depth f root)) fate);
    }
