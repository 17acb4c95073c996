-- The words of a heap, whatever their values are.
use Rattle.std.specs.Prelude.{ℕ, Bool, List}
use Rattle.rlsf_base.specs.Ledger.{Entry}
use Rattle.rlsf_base.specs.Space.{Space}
use Rattle.rlsf_model.specs.State.{State}
use Rattle.rlsf_table.specs.Table.{Table}

-- the values of a heap's fields, of which nothing is known
pub record WordsView : Type 0 where
  pub memory : Space
  pub table : Table
  pub live : ℕ
  pub lent : Bool
  pub state : State
  pub ledger : ℕ
  pub entries : List Entry
