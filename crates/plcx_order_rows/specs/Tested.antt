-- What the tests' bodies are tested for.
use Rattle.std.specs.Prelude.{◌≡◌, ℕ, ◌<◌, List}
use Rattle.plcx_types.specs.Lists.{Each}
use Rattle.plcx_model.specs.declared.body.BodyElement.{BodyElement}
use Rattle.plcx_model.specs.declared.source.Source.{Source}
use Rattle.plcx_model.specs.Numbering.{pins_of}

abbrev pub HasOnePin : BodyElement → Type 0
HasOnePin e = pins_of e.kind ≡ 1

abbrev pub OtherId : ℕ → BodyElement → Type 0
OtherId id e = id ≡ e.local_id → ⊥

abbrev pub AreBelow : ℕ → List Source → Type 0
AreBelow n sources = Each (λ (s : Source). s.element < n) sources
