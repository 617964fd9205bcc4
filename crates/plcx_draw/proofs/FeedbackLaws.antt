-- Which outputs feed back, one reader after another.
use Rattle.std.proofs.Common.{◌≡◌, ℕ, ◌+◌, ◌<◌, ◌||◌, Bool, true, false, List, [], ◌∷◌, ◌++◌, filter, map, take, get_or, length, cond, refl, sym, ap, ◌∙◌}
use Rattle.std.specs.List.{list_any}
use Rattle.std.proofs.lemmas.List.{take_more, map-append}
use Rattle.std.proofs.lemmas.List.Folds.{list_any-append}
use Rattle.std.proofs.Math.Bool.{or_assoc}
use Rattle.plcx_meaning.specs.Diagram as diagram
use Rattle.plcx_meaning.specs.Diagram.{DiagramElement, ports, is_fed, link_reads_back}
use Rattle.plcx_drawn.specs.declared.element.InputPin.{InputPin}
use Rattle.plcx_drawn.specs.Shown.{shown_input_pin}
use Rattle.plcx_model.specs.declared.project.Pou.{Pou}
use Rattle.plcx_view.specs.Diagrams.{without_networks, with_fed}
use Rattle.plcx_draw.specs.declared.feedback.Feedback.{Feedback}
use Rattle.plcx_draw.specs.Feedback.{Adds, has, link_of_input, kind_reads_back, with_found}

or_false : (b : Bool) → (b || false) ≡ b
or_false true = refl
or_false false = refl

-- one more of a list that is shown
any_more : {X Y : Type 0} (shown : X → Y) (test : Y → Bool) (xs : List X) (i : ℕ) (x d : X) → i < length xs → x ≡ get_or xs i d
    → list_any test (map shown (take (i + 1) xs)) ≡ (list_any test (map shown (take i xs)) || test (shown x))
any_more shown test xs i x d within is =
    ap (λ ys. list_any test (map shown ys)) (take_more xs i d within)
    ∙ ap (λ y. list_any test (map shown (take i xs ++ y ∷ []))) (sym is)
    ∙ ap (list_any test) (map-append shown (take i xs) (x ∷ []))
    ∙ list_any-append test (map shown (take i xs)) (shown x ∷ [])
    ∙ ap (λ b. list_any test (map shown (take i xs)) || b) (or_false (test (shown x)))

-- one more of some readers
pub adds_more : {X Y : Type 0} (shown : X → Y) (f : ℕ → List ℕ → Y → Bool) (xs : List X) (i : ℕ) (x d : X) (start before after : Feedback) → i < length xs → x ≡ get_or xs i d
    → Adds start before (λ id pin. list_any (f id pin) (map shown (take i xs)))
    → Adds before after (λ id pin. f id pin (shown x))
    → Adds start after (λ id pin. list_any (f id pin) (map shown (take (i + 1) xs)))
adds_more shown f xs i x d start before after within is old new id pin =
    new id pin
    ∙ ap (λ b. b || f id pin (shown x)) (old id pin)
    ∙ or_assoc (has start id pin) (list_any (f id pin) (map shown (take i xs))) (f id pin (shown x))
    ∙ ap (λ b. has start id pin || b) (sym (any_more shown (f id pin) xs i x d within is))

-- what is there is there, or else was there before
pub put_or : (a b : Bool) → cond a true b ≡ (b || a)
put_or true true = refl
put_or true false = refl
put_or false true = refl
put_or false false = refl

-- the links of the inputs of an instance
links_of_inputs : (inputs : List InputPin) → map (λ (i : diagram.InputPin). i.link) (map shown_input_pin inputs) ≡ map link_of_input inputs
links_of_inputs [] = refl
links_of_inputs (i ∷ inputs) = ap (λ links. link_of_input i ∷ links) (links_of_inputs inputs)

-- what EN reads, and then what the inputs of an instance read
pub adds_call : (before middle after : Feedback) (en : List diagram.Link) (inputs : List InputPin)
    → Adds before middle (λ id pin. list_any (link_reads_back id pin) en)
    → Adds middle after (λ id pin. list_any (link_reads_back id pin) (map link_of_input inputs))
    → Adds before after (λ id pin. list_any (link_reads_back id pin) (en ++ map (λ (i : diagram.InputPin). i.link) (map shown_input_pin inputs)))
adds_call before middle after en inputs first then id pin =
    let test = link_reads_back id pin in
    then id pin
    ∙ ap (λ b. b || list_any test (map link_of_input inputs)) (first id pin)
    ∙ or_assoc (has before id pin) (list_any test en) (list_any test (map link_of_input inputs))
    ∙ ap (λ b. has before id pin || b) (sym (list_any-append test en (map link_of_input inputs)))
    ∙ ap (λ links. has before id pin || list_any test (en ++ links)) (sym (links_of_inputs inputs))

-- a test that nothing passes keeps nothing
pub none_pass : {X : Type 0} (test : X → Bool) (xs : List X) → ((x : X) → test x ≡ false) → filter test xs ≡ []
none_pass test [] fails = refl
none_pass test (x ∷ xs) fails = ap (λ b. cond b (x ∷ filter test xs) (filter test xs)) (fails x) ∙ none_pass test xs fails

-- two tests that agree keep the same
pub same_pass : {X : Type 0} (test other : X → Bool) (xs : List X) → ((x : X) → test x ≡ other x) → filter test xs ≡ filter other xs
same_pass test other [] same = refl
same_pass test other (x ∷ xs) same = rw (same x, same_pass test other xs same) refl

-- where just those are found that elements read back, elements have just the outputs that feed back
pub found_fed : (pous : List Pou) (p : Pou) (f : Feedback) (es xs : List DiagramElement)
    → ((id : ℕ) (pin : List ℕ) → has f id pin ≡ list_any (λ (e : DiagramElement). kind_reads_back id pin e.kind) es)
    → map (with_found f) xs ≡ map (with_fed (without_networks pous p es)) xs
found_fed pous p f es [] found = refl
found_fed pous p f es (x ∷ xs) found =
    let set = λ (fed : List diagram.Port). let e : DiagramElement = record x { fed = fed } in e in
    let same : filter (λ (o : diagram.Port). has f x.id o.pin) (ports x.kind) ≡ filter (is_fed (without_networks pous p es) x.id) (ports x.kind) =
    same_pass (λ (o : diagram.Port). has f x.id o.pin) (is_fed (without_networks pous p es) x.id) (ports x.kind) (λ (o : diagram.Port). found x.id o.pin) in
    ap (λ fed. set fed ∷ map (with_found f) xs) same
    ∙ ap (λ ys. with_fed (without_networks pous p es) x ∷ ys) (found_fed pous p f es xs found)
