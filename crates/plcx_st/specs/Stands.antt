-- What bytes stand for: they are made of tokens, and the tokens are a unit.
use Rattle.std.specs.Prelude.{ℕ, List}
use Rattle.plcx_lex.specs.Token.{Token}
use Rattle.plcx_lex.specs.Lexis.{AreTextTokens}
use Rattle.plcx_st.specs.Grammar.{IsUnit}
use Rattle.plcx_st.specs.declared.tree.Unit as tree

pub record StandsForUnit (bytes : List ℕ) (unit : tree.Unit) (depth : ℕ) : Type 0 where
  pub tokens : List Token
  pub made : AreTextTokens bytes tokens
  pub is : IsUnit tokens unit depth
