-- What stands before the first of some bytes.
use Rattle.std.proofs.Common.{◌≡◌, ◌<◌, ◌≤◌, ℕ, ◌+◌, Bool, true, false, List, [], ◌∷◌, ◌++◌, length, take, drop, refl, ap, sym, subst, ◌∙◌, ◌⊎◌, inl, inr, arith, None, Some, append_assoc, append-nil, length-append, get_or, add-one, drop-cons}
use Rattle.std.proofs.lemmas.List.{take_more, take_at, drop_at, drop_all, take-append-drop, take-append-le, drop-append-le}
use Rattle.std.specs.declared.option.Option.{Option}
use Rattle.std.specs.Option.{option_map}
use Rattle.std.specs.Str.{bytes_eq}
use Rattle.std.proofs.lemmas.Slice.Eq.{bytes_eq-Decides}
use Rattle.plcx_xml.specs.Grammar.{begins_with, behind_one, until, SpellsEnclosed}
use Rattle.plcx_xml.specs.Reading.{◌>>=◌, behind, enclosed_at}
use Rattle.plcx_xml.proofs.Steps.{bind_some, guard_some, some_inj}

-- with this front before it
abbrev pub ahead : List ℕ → Option (List ℕ × List ℕ) → Option (List ℕ × List ℕ)
ahead front found = option_map (λ f. (front ++ f.0, f.1)) found

pub ahead-nil : (o : Option (List ℕ × List ℕ)) → o ≡ ahead [] o
ahead-nil None = refl
ahead-nil (Some f) = refl

ahead-one : (front : List ℕ) (b : ℕ) (o : Option (List ℕ × List ℕ)) → ahead front (behind_one b o) ≡ ahead (front ++ b ∷ []) o
ahead-one front b None = refl
ahead-one front b (Some f) = ap (λ (xs : List ℕ). let r : Option (List ℕ × List ℕ) = Some (xs, f.1) in r) (sym (append_assoc front (b ∷ []) f.0))

not-here : (close : List ℕ) (b : ℕ) (bs : List ℕ) → begins_with close (b ∷ bs) ≡ false → until close (b ∷ bs) ≡ behind_one b (until close bs)
not-here close b bs h = rw h refl

here : (close : List ℕ) (b : ℕ) (bs : List ℕ) → begins_with close (b ∷ bs) ≡ true → until close (b ∷ bs) ≡ Some ([], drop (length close) (b ∷ bs))
here close b bs h = rw h refl

split-turn : (bytes : List ℕ) (i : ℕ) → i < length bytes → (b : ℕ) × (drop i bytes ≡ b ∷ drop (i + 1) bytes) × (take (i + 1) bytes ≡ take i bytes ++ b ∷ [])
split-turn bytes i h =
    let d : drop i bytes ≡ get_or bytes i 0 ∷ drop (i + 1) bytes = rw (add-one, drop-cons bytes i 0 h) refl in
    (get_or bytes i 0, d, take_more bytes i 0 h)

-- one more byte before it
pub until-turn : (close bytes : List ℕ) (i : ℕ) → i < length bytes → begins_with close (drop i bytes) ≡ false → until close bytes ≡ ahead (take i bytes) (until close (drop i bytes)) → until close bytes ≡ ahead (take (i + 1) bytes) (until close (drop (i + 1) bytes))
until-turn close bytes i l h p =
    let s = split-turn bytes i l in
    let h' : begins_with close (s.0 ∷ drop (i + 1) bytes) ≡ false = subst (λ (xs : List ℕ). begins_with close xs ≡ false) s.1 h in
    let step : until close (drop i bytes) ≡ behind_one s.0 (until close (drop (i + 1) bytes)) = ap (until close) s.1 ∙ not-here close s.0 (drop (i + 1) bytes) h' in
    p ∙ (ap (ahead (take i bytes)) step ∙ (ahead-one (take i bytes) s.0 (until close (drop (i + 1) bytes)) ∙ ap (λ (xs : List ℕ). ahead xs (until close (drop (i + 1) bytes))) (sym s.2)))

pub until-here : (close bytes : List ℕ) (i : ℕ) → i < length bytes → begins_with close (drop i bytes) ≡ true → until close bytes ≡ ahead (take i bytes) (until close (drop i bytes)) → Some (take i bytes, drop (length close) (drop i bytes)) ≡ until close bytes
until-here close bytes i l h p =
    let s = split-turn bytes i l in
    let h' : begins_with close (s.0 ∷ drop (i + 1) bytes) ≡ true = subst (λ (xs : List ℕ). begins_with close xs ≡ true) s.1 h in
    let step : until close (drop i bytes) ≡ Some ([], drop (length close) (drop i bytes)) = ap (until close) s.1 ∙ (here close s.0 (drop (i + 1) bytes) h' ∙ ap (λ (xs : List ℕ). let r : Option (List ℕ × List ℕ) = Some ([], drop (length close) xs) in r) (sym s.1)) in
    sym (p ∙ (ap (ahead (take i bytes)) step ∙ ap (λ (xs : List ℕ). let r : Option (List ℕ × List ℕ) = Some (xs, drop (length close) (drop i bytes)) in r) (append-nil (take i bytes))))

begins-sound : (front bytes : List ℕ) → begins_with front bytes ≡ true → bytes ≡ front ++ drop (length front) bytes
begins-sound front bytes h =
    let same : take (length front) bytes ≡ front = (bytes_eq-Decides (take (length front) bytes) front).0 h in
    sym (take-append-drop (length front) bytes) ∙ ap (λ (xs : List ℕ). xs ++ drop (length front) bytes) same

begins-again : (front rest : List ℕ) → begins_with front (front ++ rest) ≡ true
begins-again front rest = (bytes_eq-Decides (take (length front) (front ++ rest)) front).1 (take_at front rest (length front) refl)

behind-sound : (front bytes rest : List ℕ) → behind front bytes ≡ Some rest → bytes ≡ front ++ rest
behind-sound front bytes rest h =
    let g = guard_some (begins_with front bytes) (Some (drop (length front) bytes)) rest h in
    begins-sound front bytes g.0 ∙ ap (λ (xs : List ℕ). front ++ xs) (some_inj (drop (length front) bytes) rest g.1)

behind-again : (front rest : List ℕ) → behind front (front ++ rest) ≡ Some rest
behind-again front rest = rw (begins-again front rest, drop_at front rest (length front) refl) refl

-- whether bytes begin so is told by as many of them
begins-front : (front xs ys : List ℕ) → length front ≤ length xs → begins_with front (xs ++ ys) ≡ begins_with front xs
begins-front front xs ys l = ap (λ (zs : List ℕ). bytes_eq zs front) (take-append-le (length front) xs ys l)

begins-long : (front bytes : List ℕ) → begins_with front bytes ≡ true → length front ≤ length bytes
begins-long front bytes h =
    let e : length bytes ≡ length front + length (drop (length front) bytes) = ap (λ (xs : List ℕ). length xs) (begins-sound front bytes h) ∙ length-append front (drop (length front) bytes) in
    omega arith

true_or_false : (b : Bool) → (b ≡ true) ⊎ (b ≡ false)
true_or_false true = inl refl
true_or_false false = inr refl

pair-0 : (a b c d : List ℕ) → ◌≡◌ {A = List ℕ × List ℕ} (a, b) (c, d) → a ≡ c
pair-0 a b c d e = ap (λ (p : List ℕ × List ℕ). p.0) e

pair-1 : (a b c d : List ℕ) → ◌≡◌ {A = List ℕ × List ℕ} (a, b) (c, d) → b ≡ d
pair-1 a b c d e = ap (λ (p : List ℕ × List ℕ). p.1) e

one-inside : (b : ℕ) (o : Option (List ℕ × List ℕ)) (body rest : List ℕ) → behind_one b o ≡ Some (body, rest) → (inner : List ℕ) × (o ≡ Some (inner, rest)) × (body ≡ b ∷ inner)
one-inside b None body rest h = let no : ⊥ = cc in absurd no
one-inside b (Some f) body rest h =
    let both : ◌≡◌ {A = List ℕ × List ℕ} (b ∷ f.0, f.1) (body, rest) = some_inj (b ∷ f.0, f.1) (body, rest) h in
    (f.0, ap (λ (r : List ℕ). let q : Option (List ℕ × List ℕ) = Some (f.0, r) in q) (pair-1 (b ∷ f.0) f.1 body rest both), sym (pair-0 (b ∷ f.0) f.1 body rest both))

module _ (x : ℕ) (xs : List ℕ) where
  abbrev close : List ℕ
  close = x ∷ xs

  alone : until close close ≡ Some ([], [])
  alone =
      let begins : begins_with close close ≡ true = subst (λ (ys : List ℕ). begins_with close ys ≡ true) (append-nil close) (begins-again close []) in
      here close x xs begins ∙ ap (λ (ys : List ℕ). let r : Option (List ℕ × List ℕ) = Some ([], ys) in r) (drop_all (length close) close (omega arith))

  -- what stands before the first one, alone and in the whole
  until-sound : (bytes body rest : List ℕ) → until close bytes ≡ Some (body, rest) → (bytes ≡ body ++ (close ++ rest)) × (until close (body ++ close) ≡ Some (body, []))
  until-sound [] body rest h = let no : ⊥ = cc in absurd no
  until-sound (b ∷ bs) body rest h = of (λ inner r k. until-sound bs inner r k) (true_or_false (begins_with close (b ∷ bs)))
    where
      of : ((inner r : List ℕ) → until close bs ≡ Some (inner, r) → (bs ≡ inner ++ (close ++ r)) × (until close (inner ++ close) ≡ Some (inner, []))) → (begins_with close (b ∷ bs) ≡ true) ⊎ (begins_with close (b ∷ bs) ≡ false) → (b ∷ bs ≡ body ++ (close ++ rest)) × (until close (body ++ close) ≡ Some (body, []))
      of ih (inl e) =
          let both : ◌≡◌ {A = List ℕ × List ℕ} ([], drop (length close) (b ∷ bs)) (body, rest) = some_inj ([], drop (length close) (b ∷ bs)) (body, rest) (sym (here close b bs e) ∙ h) in
          let none : body ≡ [] = sym (pair-0 [] (drop (length close) (b ∷ bs)) body rest both) in
          let after : drop (length close) (b ∷ bs) ≡ rest = pair-1 [] (drop (length close) (b ∷ bs)) body rest both in
          let whole : b ∷ bs ≡ close ++ rest = begins-sound close (b ∷ bs) e ∙ ap (λ (ys : List ℕ). close ++ ys) after in
          subst (λ (ys : List ℕ). (b ∷ bs ≡ ys ++ (close ++ rest)) × (until close (ys ++ close) ≡ Some (ys, []))) (sym none) (whole, alone)
      of ih (inr e) =
          let i = one-inside b (until close bs) body rest (sym (not-here close b bs e) ∙ h) in
          let more = ih i.0 rest i.1 in
          let own : b ∷ bs ≡ (b ∷ (i.0 ++ close)) ++ rest = ap (λ (ys : List ℕ). b ∷ ys) (more.0 ∙ sym (append_assoc i.0 close rest)) in
          let long : length close ≤ length (b ∷ (i.0 ++ close)) = let s : length (i.0 ++ close) ≡ length i.0 + length close = length-append i.0 close in omega arith in
          let none : begins_with close (b ∷ (i.0 ++ close)) ≡ false = sym (begins-front close (b ∷ (i.0 ++ close)) rest long) ∙ subst (λ (ys : List ℕ). begins_with close ys ≡ false) own e in
          let first : until close (b ∷ (i.0 ++ close)) ≡ Some (b ∷ i.0, []) = not-here close b (i.0 ++ close) none ∙ ap (behind_one b) more.1 in
          subst (λ (ys : List ℕ). (b ∷ bs ≡ ys ++ (close ++ rest)) × (until close (ys ++ close) ≡ Some (ys, []))) (sym i.2) (ap (λ (ys : List ℕ). b ∷ ys) more.0, first)

  -- what follows changes nothing
  until-more : (bytes ys body rest : List ℕ) → until close bytes ≡ Some (body, rest) → until close (bytes ++ ys) ≡ Some (body, rest ++ ys)
  until-more [] ys body rest h = let no : ⊥ = cc in absurd no
  until-more (b ∷ bs) ys body rest h = of (λ inner r k. until-more bs ys inner r k) (true_or_false (begins_with close (b ∷ bs)))
    where
      of : ((inner r : List ℕ) → until close bs ≡ Some (inner, r) → until close (bs ++ ys) ≡ Some (inner, r ++ ys)) → (begins_with close (b ∷ bs) ≡ true) ⊎ (begins_with close (b ∷ bs) ≡ false) → until close (b ∷ (bs ++ ys)) ≡ Some (body, rest ++ ys)
      of ih (inl e) =
          let both : ◌≡◌ {A = List ℕ × List ℕ} ([], drop (length close) (b ∷ bs)) (body, rest) = some_inj ([], drop (length close) (b ∷ bs)) (body, rest) (sym (here close b bs e) ∙ h) in
          let long = begins-long close (b ∷ bs) e in
          let begins : begins_with close (b ∷ (bs ++ ys)) ≡ true = begins-front close (b ∷ bs) ys long ∙ e in
          let after : drop (length close) (b ∷ (bs ++ ys)) ≡ rest ++ ys = drop-append-le (length close) (b ∷ bs) ys long ∙ ap (λ (zs : List ℕ). zs ++ ys) (pair-1 [] (drop (length close) (b ∷ bs)) body rest both) in
          here close b (bs ++ ys) begins ∙ (ap (λ (zs : List ℕ). let r : Option (List ℕ × List ℕ) = Some ([], zs) in r) after ∙ ap (λ (zs : List ℕ). let r : Option (List ℕ × List ℕ) = Some (zs, rest ++ ys) in r) (pair-0 [] (drop (length close) (b ∷ bs)) body rest both))
      of ih (inr e) =
          let i = one-inside b (until close bs) body rest (sym (not-here close b bs e) ∙ h) in
          let more = until-sound bs i.0 rest i.1 in
          let size : length bs ≡ length i.0 + (length close + length rest) = ap (λ (zs : List ℕ). length zs) more.0 ∙ (length-append i.0 (close ++ rest) ∙ ap (λ (n : ℕ). length i.0 + n) (length-append close rest)) in
          let long : length close ≤ length (b ∷ bs) = omega arith in
          let none : begins_with close (b ∷ (bs ++ ys)) ≡ false = begins-front close (b ∷ bs) ys long ∙ e in
          not-here close b (bs ++ ys) none ∙ (ap (behind_one b) (ih i.0 rest i.1) ∙ ap (λ (zs : List ℕ). let r : Option (List ℕ × List ℕ) = Some (zs, rest ++ ys) in r) (sym i.2))

pub enclosed-sound : (opening : List ℕ) (x : ℕ) (xs bytes body rest : List ℕ) → enclosed_at opening (x ∷ xs) bytes ≡ Some (body, rest) → (text : List ℕ) × SpellsEnclosed opening (x ∷ xs) body text × (bytes ≡ text ++ rest)
enclosed-sound opening x xs bytes body rest h =
    let b = bind_some (behind opening bytes) (until (x ∷ xs)) (body, rest) h in
    let u = until-sound x xs b.0 body rest b.2 in
    let inner : (body ++ (x ∷ xs)) ++ rest ≡ body ++ ((x ∷ xs) ++ rest) = append_assoc body (x ∷ xs) rest in
    let whole : bytes ≡ (opening ++ (body ++ (x ∷ xs))) ++ rest = behind-sound opening bytes b.0 b.1 ∙ (ap (λ (ys : List ℕ). opening ++ ys) (u.0 ∙ sym inner) ∙ sym (append_assoc opening (body ++ (x ∷ xs)) rest)) in
    (opening ++ (body ++ (x ∷ xs)), record { first = u.1; all = refl }, whole)

pub enclosed-again : (opening : List ℕ) (x : ℕ) (xs body text rest : List ℕ) → SpellsEnclosed opening (x ∷ xs) body text → enclosed_at opening (x ∷ xs) (text ++ rest) ≡ Some (body, rest)
enclosed-again opening x xs body text rest s =
    let whole : text ++ rest ≡ opening ++ ((body ++ (x ∷ xs)) ++ rest) = ap (λ (ys : List ℕ). ys ++ rest) s.all ∙ append_assoc opening (body ++ (x ∷ xs)) rest in
    ap (enclosed_at opening (x ∷ xs)) whole
    ∙ (ap (λ (o : Option (List ℕ)). o >>= until (x ∷ xs)) (behind-again opening ((body ++ (x ∷ xs)) ++ rest))
    ∙ until-more x xs (body ++ (x ∷ xs)) rest body [] s.first)

pub enclosed-not : (opening close bytes : List ℕ) → begins_with opening bytes ≡ false → enclosed_at opening close bytes ≡ None
enclosed-not opening close bytes h = rw h refl
