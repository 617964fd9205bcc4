-- The first element that breaks a rule, body by body.
use Rattle.std.proofs.Common.{◌≡◌, ℕ, zero, suc, ◌+◌, ◌<◌, ◌≤◌, Bool, true, false, List, [], ◌∷◌, cond, drop, length, get_or, map, Option, Some, None, option_map, slice_get, refl, sym, ap, ◌∙◌, arith, if◌then◌else◌}
use Rattle.std.specs.List.{find}
use Rattle.std.specs.Option.{option_or}
use Rattle.std.proofs.lemmas.Option.{slice_get-map, slice_get_read}
use Rattle.std.proofs.lemmas.List.Folds.{find-append}
use Rattle.std.proofs.lemmas.List.{at_drop_all}
use Rattle.plcx_model.specs.declared.body.BodyElement.{BodyElement}
use Rattle.plcx_model.specs.declared.broken.Place.{Place}
use Rattle.plcx_model.specs.declared.broken.Place.TheVariants.{Element}
use Rattle.plcx_model.specs.declared.project.Pou.{Pou}
use Rattle.plcx_rules.specs.declared.rule.LinkRule.{LinkRule}
use Rattle.plcx_rules.specs.Items.{Item, items_in, items_from, items_of}
use Rattle.plcx_rules.specs.LinkRules.{breaks, link_place}
use Rattle.plcx_link.specs.InProject.{InProject}
use Rattle.plcx_link.specs.declared.body.Resolved.{Resolved}
use Rattle.plcx_link.specs.Bodies.{StandingIn, standing}
use Rattle.plcx_link.specs.Breaking.{breaks_by, broken_there, item_at}
use Rattle.plcx_link.specs.Judged.{local_id_of, bodies_of, first_from, place_in}
use Rattle.plcx_link.proofs.SideNames.{dropped, past_all, no_more}
use Rattle.plcx_link.proofs.Standings.{stands, nothing}
use Rattle.plcx_link.proofs.Breakings.{breaks_is}

-- ---- an element

pub none_broken : (b : InProject) (r : LinkRule) (place : ℕ) → None ≡ option_map (standing b.pous b.owner) (slice_get b.owner.body.elements place) → (pou : ℕ) → None ≡ broken_there b.pous r pou b.owner place (slice_get b.owner.body.elements place)
none_broken b r place none pou = rw (nothing (standing b.pous b.owner) (slice_get b.owner.body.elements place) none) refl

told : (b : InProject) (r : LinkRule) (place : ℕ) (s : StandingIn) (is : Bool) → Some s ≡ option_map (standing b.pous b.owner) (slice_get b.owner.body.elements place) → is ≡ breaks_by b r place s → (pou : ℕ)
    → broken_there b.pous r pou b.owner place (slice_get b.owner.body.elements place) ≡ (if is then Some s.element.local_id else None)
told b r place s is there tests pou =
    let all = stands b.pous b.owner b.owner.body.elements place s there in
    let same : s ≡ standing b.pous b.owner s.element = ap (λ (x : Resolved). let t : StandingIn = record { element = s.element; resolved = x } in t) all.is in
    let law = breaks_is b.pous r pou b.owner place s.element all.there in
    rw all.there (ap (λ (c : Bool). if c then Some s.element.local_id else None) (sym law ∙ (ap (breaks_by b r place) (sym same) ∙ sym tests)))

pub one_broken : (b : InProject) (r : LinkRule) (place : ℕ) (s : StandingIn) (is : Bool) → Some s ≡ option_map (standing b.pous b.owner) (slice_get b.owner.body.elements place) → is ≡ breaks_by b r place s → is ≡ true → (pou : ℕ)
    → Some s.element.local_id ≡ broken_there b.pous r pou b.owner place (slice_get b.owner.body.elements place)
one_broken b r place s is there tests passes pou = sym (rw passes at (told b r place s is there tests pou))

pub one_kept : (b : InProject) (r : LinkRule) (place : ℕ) (s : StandingIn) (is : Bool) → Some s ≡ option_map (standing b.pous b.owner) (slice_get b.owner.body.elements place) → is ≡ breaks_by b r place s → is ≡ false → (pou : ℕ)
    → None ≡ broken_there b.pous r pou b.owner place (slice_get b.owner.body.elements place)
one_kept b r place s is there tests fails pou = sym (rw fails at (told b r place s is there tests pou))

-- ---- a body

-- what was found, or else another
abbrev or_later : Option ℕ → Option ℕ → Option ℕ
or_later None later = later
or_later (Some id) later = Some id

past_next : {X : Type 0} (xs : List X) (i : ℕ) → slice_get xs i ≡ None → drop (i + 1) xs ≡ []
past_next [] i h = no_more (i + 1)
past_next (x ∷ xs) zero h = cc
past_next (x ∷ xs) (suc i) h = let e : suc i + 1 ≡ suc (i + 1) = omega arith in rw e (past_next xs i h)

chosen : (c : Bool) (x : Item) (o : Option Item) → option_map local_id_of (cond c (Some x) o) ≡ or_later (if c then Some x.element.local_id else None) (option_map local_id_of o)
chosen true x o = refl
chosen false x o = refl

one_by : (b : InProject) (r : LinkRule) (pou place : ℕ) (o : Option BodyElement) → slice_get b.owner.body.elements place ≡ o → first_from b r pou place ≡ or_later (broken_there b.pous r pou b.owner place o) (first_from b r pou (place + 1))
one_by b r pou place None at = rw (past_all b.owner.body.elements place at, past_next b.owner.body.elements place at) refl
one_by b r pou place (Some e) at = rw (dropped b.owner.body.elements place e at) (chosen (breaks b.pous r (item_at pou b.owner place e)) (item_at pou b.owner place e) _)

one : (b : InProject) (r : LinkRule) (pou place : ℕ) → first_from b r pou place ≡ or_later (broken_there b.pous r pou b.owner place (slice_get b.owner.body.elements place)) (first_from b r pou (place + 1))
one b r pou place = one_by b r pou place (slice_get b.owner.body.elements place) refl

pub found_here : (b : InProject) (r : LinkRule) (pou place id : ℕ) → Some id ≡ broken_there b.pous r pou b.owner place (slice_get b.owner.body.elements place) → first_from b r pou place ≡ first_from b r pou 0 → Some id ≡ first_from b r pou 0
found_here b r pou place id is all = sym (rw (← is) at (one b r pou place)) ∙ all

pub found_later : (b : InProject) (r : LinkRule) (pou place : ℕ) → None ≡ broken_there b.pous r pou b.owner place (slice_get b.owner.body.elements place) → first_from b r pou place ≡ first_from b r pou 0 → first_from b r pou (place + 1) ≡ first_from b r pou 0
found_later b r pou place is all = sym (rw (← is) at (one b r pou place)) ∙ all

pub found_none : (b : InProject) (r : LinkRule) (pou place : ℕ) → length b.owner.body.elements ≤ place → first_from b r pou place ≡ first_from b r pou 0 → None ≡ first_from b r pou 0
found_none b r pou place past all = sym (at_drop_all (λ (es : List BodyElement). option_map local_id_of (find (breaks b.pous r) (items_in pou b.owner place es))) b.owner.body.elements place past) ∙ all

placed : (c : Bool) (r : LinkRule) (owner : Pou) (x : Item) (o : Option Item) → x.owner ≡ owner → option_map (link_place r) o ≡ option_map (Element owner.name) (option_map local_id_of o) → option_map (link_place r) (cond c (Some x) o) ≡ option_map (Element owner.name) (option_map local_id_of (cond c (Some x) o))
placed true r owner x o is more = rw is refl
placed false r owner x o is more = more

pub place_is : (pous : List Pou) (r : LinkRule) (pou : ℕ) (owner : Pou) (n : ℕ) (es : List BodyElement) → option_map (link_place r) (find (breaks pous r) (items_in pou owner n es)) ≡ option_map (Element owner.name) (option_map local_id_of (find (breaks pous r) (items_in pou owner n es)))
place_is pous r pou owner n [] = refl
place_is pous r pou owner n (e ∷ es) = placed (breaks pous r (item_at pou owner n e)) r owner (item_at pou owner n e) _ refl (place_is pous r pou owner (n + 1) es)

pub no_place : (b : InProject) (r : LinkRule) (pou : ℕ) → None ≡ first_from b r pou 0 → None ≡ place_in b r pou
no_place b r pou none = sym (place_is b.pous r pou b.owner 0 b.owner.body.elements ∙ ap (option_map (Element b.owner.name)) (sym none))

pub a_place : (b : InProject) (r : LinkRule) (pou id : ℕ) → Some id ≡ first_from b r pou 0 → Some (Element b.owner.name id) ≡ place_in b r pou
a_place b r pou id some = sym (place_is b.pous r pou b.owner 0 b.owner.body.elements ∙ ap (option_map (Element b.owner.name)) (sym some))

-- ---- all bodies

-- the first place in the bodies from one on
abbrev pub places_from : List Pou → LinkRule → ℕ → Option Place
places_from pous r i = option_map (link_place r) (find (breaks pous r) (items_from i (drop i pous)))

abbrev or_place : Option Place → Option Place → Option Place
or_place None later = later
or_place (Some p) later = Some p

split_place : (r : LinkRule) (o p : Option Item) → option_map (link_place r) (option_or o p) ≡ or_place (option_map (link_place r) o) (option_map (link_place r) p)
split_place r None p = refl
split_place r (Some x) p = refl

-- the body at a place is that of a POU
pub record OfPou (pous : List Pou) (i : ℕ) (b : InProject) : Type 0 where
  pub owner : slice_get pous i ≡ Some b.owner
  pub whole : b.pous ≡ pous

of_found : (pous : List Pou) (i : ℕ) (b : InProject) (o : Option Pou) → slice_get pous i ≡ o → option_map (λ (p : Pou). let c : InProject = record { pous = pous; owner = p } in c) o ≡ Some b → OfPou pous i b
of_found pous i b None at is = cc
of_found pous i b (Some p) at is = let same : b ≡ record { pous = pous; owner = p } = cc in rw same (record { owner = at; whole = refl })

pub of_pou : (pous : List Pou) (bodies : List InProject) (i : ℕ) (b : InProject) → bodies ≡ bodies_of pous pous → i < length bodies → b ≡ get_or bodies i b → OfPou pous i b
of_pou pous bodies i b are at is =
    let here : slice_get bodies i ≡ Some b = slice_get_read bodies (length bodies) i b refl at is in
    of_found pous i b (slice_get pous i) refl (sym (slice_get-map (λ (p : Pou). let c : InProject = record { pous = pous; owner = p } in c) pous i) ∙ (ap (λ (bs : List InProject). slice_get bs i) (sym are) ∙ here))

body_more : (pous : List Pou) (r : LinkRule) (i : ℕ) (b : InProject) → OfPou pous i b → places_from pous r i ≡ or_place (place_in b r i) (places_from pous r (i + 1))
body_more pous r i b of =
    rw (dropped pous i b.owner of.owner, find-append (breaks pous r) (items_in i b.owner 0 b.owner.body.elements) (items_from (i + 1) (drop (i + 1) pous)), of.whole)
    (split_place r (find (breaks pous r) (items_in i b.owner 0 b.owner.body.elements)) (find (breaks pous r) (items_from (i + 1) (drop (i + 1) pous))))

pub place_here : (pous : List Pou) (r : LinkRule) (i : ℕ) (b : InProject) (p : Place) (all : Option Place) → OfPou pous i b → Some p ≡ place_in b r i → places_from pous r i ≡ all → Some p ≡ all
place_here pous r i b p all of here whole = sym (rw (← here) at (body_more pous r i b of)) ∙ whole

pub place_later : (pous : List Pou) (r : LinkRule) (i : ℕ) (b : InProject) (all : Option Place) → OfPou pous i b → None ≡ place_in b r i → places_from pous r i ≡ all → places_from pous r (i + 1) ≡ all
place_later pous r i b all of here whole = sym (rw (← here) at (body_more pous r i b of)) ∙ whole

length-map : {X Y : Type 0} (f : X → Y) (xs : List X) → length (map f xs) ≡ length xs
length-map f [] = refl
length-map f (x ∷ xs) = ap suc (length-map f xs)

pub place_none : (pous : List Pou) (bodies : List InProject) (r : LinkRule) (i : ℕ) (all : Option Place) → bodies ≡ bodies_of pous pous → length bodies ≤ i → places_from pous r i ≡ all → None ≡ all
place_none pous bodies r i all are past whole =
    let count : length bodies ≡ length pous = ap length are ∙ length-map _ pous in
    sym (at_drop_all (λ (ps : List Pou). option_map (link_place r) (find (breaks pous r) (items_from i ps))) pous i (omega arith)) ∙ whole

pub all_places : (pous : List Pou) (r : LinkRule) → places_from pous r 0 ≡ option_map (link_place r) (find (breaks pous r) (items_of pous))
unfolding items_of
all_places pous r = refl
