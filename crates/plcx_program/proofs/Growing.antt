-- Networks and bodies stay what they are as more are made.
use Rattle.std.proofs.Common.{◌≡◌, ℕ, ◌+◌, ◌<◌, List, [], ◌∷◌, ◌++◌, take, get_or, map, length, sym, subst}
use Rattle.std.specs.List.{AllZip}
use Rattle.plcx_meaning.specs.Diagram.{DiagramElement, Pou, Project}
use Rattle.plcx_steps.specs.declared.program.Program.{Program}
use Rattle.plcx_numbered.specs.Numbers.{numbering}
use Rattle.plcx_numbered.specs.Programs.{IsNetworkOf}
use Rattle.plcx_numbered.specs.Prepared.{Numbering}
use Rattle.plcx_bodies.specs.Made.{IsMade, Begins}
use Rattle.plcx_bodies.specs.declared.networks.Made.{Made}
use Rattle.plcx_bodies.specs.declared.networks.Shared.{Shared}
use Rattle.plcx_bodies.proofs.Standing.{made_stands, begun_before}
use Rattle.plcx_program.specs.declared.networks.Networks.{Networks}
use Rattle.plcx_program.specs.declared.bodies.Bodies.{Bodies}
use Rattle.plcx_program.specs.Bodies.{AddsNetwork, HasNetworks, IsUnframed, AddsBody, HasBodies}
use Rattle.plcx_program.proofs.Zips.{zip_more}

-- what is made by a POU's numbers is a network more
pub network_added : (project : Project) (p : Pou) (networks : List (List DiagramElement)) (es : List DiagramElement) (c : Numbering) (before after : Networks) (made : Made) → p.networks ≡ networks → c ≡ numbering project p es
    → IsMade c networks es before.shared made → after.shared ≡ made.shared → after.items.items ≡ before.items.items ++ made.network ∷ [] → AddsNetwork project p es before after
network_added project p networks es c before after made own num is shared more =
    let mine : IsMade (numbering project p es) p.networks es before.shared made =
    subst (λ (ns : List (List DiagramElement)). IsMade (numbering project p es) ns es before.shared made) (sym own) (subst (λ (n : Numbering). IsMade n networks es before.shared made) num is) in
    let begins : (program : Program) → Begins after.shared program → Begins made.shared program = λ program b. subst (λ (s : Shared). Begins s program) shared b in
    record {
      network = made.network;
      more = more;
      is = λ program b. made_stands project p es before.shared made mine program (begins program b);
      continues = λ program b. begun_before project p es before.shared made mine program (begins program b);
    }

-- no network yet
pub no_networks : (project : Project) (p : Pou) (all : Networks) → all.items.items ≡ [] → HasNetworks project p [] all.shared all
no_networks project p all none = record { are = λ program b. subst (AllZip (IsNetworkOf project program p) []) (sym none) tt; continues = λ program b. b }

-- a network more
module _ (project : Project) (p : Pou) {C : Type 0} (f : C → List DiagramElement) (cs : List C) (i : ℕ) (d : C) (low : i < length cs) (start : Shared) (before after : Networks) where
  pub networks_more : HasNetworks project p (map f (take i cs)) start before → AddsNetwork project p (f (get_or cs i d)) before after → HasNetworks project p (map f (take (i + 1) cs)) start after
  networks_more has adds = record {
    are = λ program b. zip_more (IsNetworkOf project program p) f cs i d before.items.items after.items.items adds.network low adds.more (has.are program (adds.continues program b)) (adds.is program b);
    continues = λ program b. has.continues program (adds.continues program b);
  }

-- a body more
module _ (project : Project) {C : Type 0} (f : C → Pou) (cs : List C) (i : ℕ) (d : C) (low : i < length cs) (before after : Bodies) where
  pub bodies_more : HasBodies project (map f (take i cs)) before → AddsBody project (f (get_or cs i d)) before after → HasBodies project (map f (take (i + 1) cs)) after
  bodies_more has adds = λ program b.
      zip_more (IsUnframed project program) f cs i d before.items.items after.items.items adds.body low adds.more (has program (adds.continues program b)) (adds.is program b)
