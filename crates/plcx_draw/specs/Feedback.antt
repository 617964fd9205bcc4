-- Which outputs feed back, as the code finds them.
use Rattle.std.specs.Prelude.{◌≡◌, ℕ, ◌&&◌, ◌||◌, Bool, List, [], filter, nat_eq}
use Rattle.std.specs.Borrow.{Bor}
use Rattle.std.specs.List.{list_any}
use Rattle.std.specs.Str.{bytes_eq}
use Rattle.plcx_meaning.specs.Diagram.{Link, ElementKind, Port, DiagramElement, ports, links_of, link_reads_back}
use Rattle.plcx_drawn.specs.declared.element.InputPin.{InputPin}
use Rattle.plcx_drawn.specs.Shown.{shown_link, shown_kind}
use Rattle.plcx_draw.specs.declared.feedback.Bare.{Bare}
use Rattle.plcx_draw.specs.declared.feedback.Feedback.{Feedback}

-- an element, before it is known which of its outputs feed back
abbrev pub shown_bare : Bare → DiagramElement
shown_bare e = record { id = e.id; kind = shown_kind e.kind; fed = [] }

-- what stands at an input of an instance
abbrev pub link_of_input : InputPin → Link
link_of_input i = shown_link i.link

-- one of the links of an element reads this output as one that feeds back
abbrev pub kind_reads_back : ℕ → List ℕ → ElementKind → Bool
kind_reads_back id pin k = list_any (link_reads_back id pin) (links_of k)

-- an output is among those that were found
abbrev pub has : Feedback → ℕ → List ℕ → Bool
has f id pin = list_any (λ (o : ℕ × Bor (List ℕ)). nat_eq id o.0 && bytes_eq pin o.1.now) f.outputs.keys

-- beside what was found before, just the outputs that are read back
abbrev pub Adds : Feedback → Feedback → (ℕ → List ℕ → Bool) → Type 0
Adds before after reads = (id : ℕ) (pin : List ℕ) → has after id pin ≡ (has before id pin || reads id pin)

-- an element with those of its outputs that were found
abbrev pub with_found : Feedback → DiagramElement → DiagramElement
with_found f e = record e { fed = filter (λ (o : Port). has f e.id o.pin) (ports e.kind) }
