-- Tags: the steps of reading one, and what is spelled there.
use Rattle.std.proofs.Common.{◌≡◌, ℕ, Bool, true, false, ◌&&◌, List, [], ◌∷◌, ◌++◌, length, drop, refl, ap, sym, subst, ◌∙◌, ◌⊎◌, inl, inr, arith, cond, None, Some, append_assoc, nat_lt, nat_eq}
use Rattle.std.specs.declared.option.Option.{Option}
use Rattle.std.specs.Prelude.{slice_index}
use Rattle.std.proofs.lemmas.Bool.{lt-ltb, eqb-true}
use Rattle.plcx_xml.specs.declared.tree.Attribute.{Attribute}
use Rattle.plcx_xml.specs.Character.{is_first, is_next, is_space}
use Rattle.plcx_xml.specs.Grammar.{Stops, Heads, IsName, IsSpace, SpellsAttributes, SpellsEnd}
use Rattle.plcx_xml.specs.Reading.{◌>>=◌, starts, run_at, name_at, byte_at, behind_space, named_at, parts_at, close_at, begin_at, end_name_at, end_at}
use Rattle.plcx_xml.specs.Reads.{attribute_at}
use Rattle.plcx_xml.proofs.Runs.{both-true, run-sound, starts-sound, starts-again, starts-not, space-apart, apart, stops_at_head, stops_behind_space, heads_append}
use Rattle.plcx_xml.proofs.Steps.{bind_some, some_inj, byte-sound, byte-again, byte-not, name-sound, name-again, name-not, space-again, long-heads}

-- how a tag ends
abbrev pub close_text : Bool → List ℕ
close_text true = 47 ∷ 62 ∷ []
close_text false = 62 ∷ []

cond-gives : {A : Type 0} (b : Bool) (x y : Option A) (z : A) → cond b x y ≡ Some z → ((b ≡ true) × (x ≡ Some z)) ⊎ (y ≡ Some z)
cond-gives true x y z h = inl (refl, h)
cond-gives false x y z h = inr h

abbrev ends_empty : List ℕ → Bool
ends_empty bytes = nat_lt 1 (length bytes) && nat_eq (slice_index bytes 0) 47 && nat_eq (slice_index bytes 1) 62

close-plain : (bytes : List ℕ) → Heads (λ x. nat_eq x 62) bytes → bytes ≡ 62 ∷ drop 1 bytes
close-plain [] h = absurd h
close-plain (x ∷ xs) h = rw (eqb-true x 62 h) refl

close-empty : (bytes : List ℕ) → ends_empty bytes ≡ true → bytes ≡ 47 ∷ 62 ∷ drop 2 bytes
close-empty [] h = let no : ⊥ = cc in absurd no
close-empty (x ∷ []) h = let no : ⊥ = cc in absurd no
close-empty (x ∷ (y ∷ xs)) h =
    let both = both-true (nat_lt 1 (length (x ∷ (y ∷ xs))) && nat_eq x 47) (nat_eq y 62) h in
    let first = both-true (nat_lt 1 (length (x ∷ (y ∷ xs)))) (nat_eq x 47) both.0 in
    rw (eqb-true x 47 first.1, eqb-true y 62 both.1) refl

pub close-sound : (bytes : List ℕ) (e : Bool × List ℕ) → close_at bytes ≡ Some e → bytes ≡ close_text e.0 ++ e.1
close-sound bytes e h = of (cond-gives (starts (λ x. nat_eq x 62) bytes) (Some (false, drop 1 bytes)) (cond (ends_empty bytes) (Some (true, drop 2 bytes)) None) e h)
  where
    is_empty : ((ends_empty bytes ≡ true) × (◌≡◌ {A = Option (Bool × List ℕ)} (Some (true, drop 2 bytes)) (Some e))) ⊎ (◌≡◌ {A = Option (Bool × List ℕ)} None (Some e)) → bytes ≡ close_text e.0 ++ e.1
    is_empty (inl k) = subst (λ (d : Bool × List ℕ). bytes ≡ close_text d.0 ++ d.1) (some_inj (true, drop 2 bytes) e k.1) (close-empty bytes k.0)
    is_empty (inr k) = let no : ⊥ = cc in absurd no

    of : ((starts (λ x. nat_eq x 62) bytes ≡ true) × (◌≡◌ {A = Option (Bool × List ℕ)} (Some (false, drop 1 bytes)) (Some e))) ⊎ (◌≡◌ {A = Option (Bool × List ℕ)} (cond (ends_empty bytes) (Some (true, drop 2 bytes)) None) (Some e)) → bytes ≡ close_text e.0 ++ e.1
    of (inl k) = subst (λ (d : Bool × List ℕ). bytes ≡ close_text d.0 ++ d.1) (some_inj (false, drop 1 bytes) e k.1) (close-plain bytes (starts-sound (λ x. nat_eq x 62) bytes k.0))
    of (inr k) = is_empty (cond-gives (ends_empty bytes) (Some (true, drop 2 bytes)) None e k)

pub close-again : (b : Bool) (rest : List ℕ) → close_at (close_text b ++ rest) ≡ Some (b, rest)
close-again true rest = rw (starts-not (λ x. nat_eq x 62) (47 ∷ (62 ∷ rest)) refl, lt-ltb 1 (length (47 ∷ (62 ∷ rest))) (omega arith)) refl
close-again false rest = rw (starts-again (λ x. nat_eq x 62) (62 ∷ rest) refl) refl

close-space : (b : Bool) (rest : List ℕ) → Stops is_space (close_text b ++ rest)
close-space true rest = refl
close-space false rest = refl

close-first : (b : Bool) (rest : List ℕ) → Stops is_first (close_text b ++ rest)
close-first true rest = refl
close-first false rest = refl

close-next : (b : Bool) (rest : List ℕ) → Stops is_next (close_text b ++ rest)
close-next true rest = refl
close-next false rest = refl

next-space : (x : ℕ) → is_space x ≡ true → is_next x ≡ false
next-space = space-apart is_next refl refl refl refl

pub begin-sound : (bytes name rest : List ℕ) → begin_at bytes ≡ Some (name, rest) → IsName name × (bytes ≡ 60 ∷ (name ++ rest))
unfolding begin_at
begin-sound bytes name rest h =
    let a = bind_some (byte_at 60 bytes) name_at (name, rest) h in
    let n = name-sound a.0 name rest a.2 in
    (n.0, byte-sound 60 bytes a.0 a.1 ∙ ap (λ (xs : List ℕ). 60 ∷ xs) n.1)

pub begin-again : (name rest : List ℕ) → IsName name → Stops is_next rest → begin_at (60 ∷ (name ++ rest)) ≡ Some (name, rest)
unfolding begin_at
begin-again name rest n h = rw (byte-again 60 (name ++ rest)) (name-again name rest n h)

pub begin-not : (bytes : List ℕ) → Stops (λ x. nat_eq x 60) bytes → begin_at bytes ≡ None
unfolding begin_at
begin-not bytes h = rw (byte-not 60 bytes h) refl

pub end-not : (bytes : List ℕ) → Stops (λ x. nat_eq x 60) bytes → end_at bytes ≡ None
unfolding end_at
end-not bytes h = rw (byte-not 60 bytes h) refl

first-slash : (x : ℕ) → is_first x ≡ true → nat_eq x 47 ≡ false
first-slash = apart (λ x. nat_eq x 47) is_first (λ x h. rw (eqb-true x 47 h) refl)

-- a start tag is no end tag
pub end-not-begin : (name rest : List ℕ) → IsName name → end_at (60 ∷ (name ++ rest)) ≡ None
unfolding end_at
end-not-begin name rest n =
    rw (
      byte-again 60 (name ++ rest),
      byte-not 47 (name ++ rest) (stops_at_head is_first (λ x. nat_eq x 47) (name ++ rest) first-slash (heads_append is_first name rest n.0)),
    ) refl

-- what begins with `<` and another character is neither
pub end-not-slash : (x : ℕ) (rest : List ℕ) → nat_eq x 47 ≡ false → end_at (60 ∷ (x ∷ rest)) ≡ None
unfolding end_at
end-not-slash x rest h = rw (byte-again 60 (x ∷ rest), byte-not 47 (x ∷ rest) h) refl

pub begin-not-name : (x : ℕ) (rest : List ℕ) → is_first x ≡ false → begin_at (60 ∷ (x ∷ rest)) ≡ None
unfolding begin_at
begin-not-name x rest h = rw (byte-again 60 (x ∷ rest)) (name-not (x ∷ rest) h)

pub record EndName (bytes name rest : List ℕ) : Type 0 where
  pub space : List ℕ
  pub named : IsName name
  pub spaced : IsSpace space
  pub spelled : bytes ≡ name ++ (space ++ (62 ∷ rest))

end_name-sound : (bytes name rest : List ℕ) → end_name_at bytes ≡ Some (name, rest) → EndName bytes name rest
unfolding end_name_at
end_name-sound bytes name rest h =
    let P = List ℕ × List ℕ in
    let f2 : P → List ℕ → Option P = λ found r. Some (found.0, r) in
    let f1 : P → Option P = λ found. byte_at 62 (behind_space found.1) >>= f2 found in
    let a = bind_some (name_at bytes) f1 (name, rest) h in
    let b = bind_some (byte_at 62 (behind_space a.0.1)) (f2 a.0) (name, rest) a.2 in
    let both : ◌≡◌ {A = List ℕ × List ℕ} (a.0.0, b.0) (name, rest) = some_inj (a.0.0, b.0) (name, rest) b.2 in
    let n = name-sound bytes a.0.0 a.0.1 a.1 in
    let run = run-sound is_space a.0.1 in
    let behind : a.0.1 ≡ (run_at is_space a.0.1).0 ++ (62 ∷ b.0) = run.2 ∙ ap (λ (xs : List ℕ). (run_at is_space a.0.1).0 ++ xs) (byte-sound 62 (behind_space a.0.1) b.0 b.1) in
    let found : EndName bytes a.0.0 b.0 = record { space = (run_at is_space a.0.1).0; named = n.0; spaced = run.0; spelled = n.1 ∙ ap (λ (xs : List ℕ). a.0.0 ++ xs) behind } in
    subst (λ (d : List ℕ × List ℕ). EndName bytes d.0 d.1) both found

end_name-again : (name space rest : List ℕ) → IsName name → IsSpace space → end_name_at (name ++ (space ++ (62 ∷ rest))) ≡ Some (name, rest)
unfolding end_name_at
end_name-again name space rest n s =
    rw (
      name-again name (space ++ (62 ∷ rest)) n (stops_behind_space is_next next-space space (62 ∷ rest) s refl),
      space-again space (62 ∷ rest) s refl,
      byte-again 62 rest,
    ) refl

end-regroup : (name space rest : List ℕ) → (name ++ (space ++ 62 ∷ [])) ++ rest ≡ name ++ (space ++ (62 ∷ rest))
end-regroup name space rest = simp append_assoc

pub end-sound : (bytes name rest : List ℕ) → end_at bytes ≡ Some (name, rest) → (text : List ℕ) × SpellsEnd name text × (bytes ≡ text ++ rest)
unfolding end_at
end-sound bytes name rest h =
    let P = List ℕ × List ℕ in
    let f1 : List ℕ → Option P = λ inside. byte_at 47 inside >>= end_name_at in
    let a = bind_some (byte_at 60 bytes) f1 (name, rest) h in
    let b = bind_some (byte_at 47 a.0) end_name_at (name, rest) a.2 in
    let e = end_name-sound b.0 name rest b.2 in
    let whole : bytes ≡ 60 ∷ 47 ∷ (name ++ (e.space ++ (62 ∷ rest))) = byte-sound 60 bytes a.0 a.1 ∙ ap (λ (xs : List ℕ). 60 ∷ xs) (byte-sound 47 a.0 b.0 b.1 ∙ ap (λ (xs : List ℕ). 47 ∷ xs) e.spelled) in
    (60 ∷ 47 ∷ (name ++ (e.space ++ 62 ∷ [])), record { space = e.space; named = e.named; spaced = e.spaced; all = refl }, whole ∙ ap (λ (xs : List ℕ). 60 ∷ 47 ∷ xs) (sym (end-regroup name e.space rest)))

pub end-again : (name text rest : List ℕ) → SpellsEnd name text → end_at (text ++ rest) ≡ Some (name, rest)
unfolding end_at
end-again name text rest s =
    rw (
      s.all,
      end-regroup name s.space rest,
      byte-again 60 (47 ∷ (name ++ (s.space ++ (62 ∷ rest)))),
      byte-again 47 (name ++ (s.space ++ (62 ∷ rest))),
    ) (end_name-again name s.space rest s.named s.spaced)

cond-none : {A : Type 0} (b : Bool) (o : Option A) → o ≡ None → None ≡ cond b o None
cond-none true o h = sym h
cond-none false o h = refl

named-not : (bytes : List ℕ) → Stops is_first bytes → named_at bytes ≡ None
unfolding named_at
named-not bytes h = rw (name-not bytes h) refl

-- no attribute stands where the tag ends
pub attribute-not : (last : ℕ) (space : List ℕ) (b : Bool) (rest : List ℕ) → IsSpace space → None ≡ attribute_at last (space ++ (close_text b ++ rest))
attribute-not last space b rest s =
    let bytes = space ++ (close_text b ++ rest) in
    let none : named_at (behind_space bytes) ≡ None = rw (space-again space (close_text b ++ rest) s (close-space b rest)) (named-not (close_text b ++ rest) (close-first b rest)) in
    let same : None ≡ parts_at bytes = cond-none (starts is_space bytes) (named_at (behind_space bytes)) none in
    rw (← same) refl

pub close-behind : (space : List ℕ) (b : Bool) (rest : List ℕ) → IsSpace space → close_at (behind_space (space ++ (close_text b ++ rest))) ≡ Some (b, rest)
close-behind space b rest s = rw (space-again space (close_text b ++ rest) s (close-space b rest)) (close-again b rest)

-- a tag's name stops at what follows it
pub name-stops : (at : ℕ) (attributes : List Attribute) (middle space rest : List ℕ) (b : Bool) → SpellsAttributes at attributes middle → IsSpace space → Stops is_next (middle ++ (space ++ (close_text b ++ rest)))
name-stops at [] middle space rest b a s = subst (λ (xs : List ℕ). Stops is_next (xs ++ (space ++ (close_text b ++ rest)))) (sym a) (stops_behind_space is_next next-space space (close_text b ++ rest) s (close-next b rest))
name-stops at (a ∷ more) middle space rest b s blank =
    let one = s.3 in
    let heads : Heads is_space (one.before ++ one.quoted) = heads_append is_space one.before one.quoted (long-heads is_space one.before one.parted.0 one.parted.1) in
    let front : Heads is_space s.0 = subst (Heads is_space) (sym one.all) heads in
    let whole : Heads is_space middle = subst (Heads is_space) (sym s.2) (heads_append is_space s.0 s.1 front) in
    stops_at_head is_space is_next (middle ++ (space ++ (close_text b ++ rest))) next-space (heads_append is_space middle (space ++ (close_text b ++ rest)) whole)
