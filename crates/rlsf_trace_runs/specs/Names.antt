-- The live payloads of a run by their names.
use Rattle.std.specs.Prelude.{◌≡◌, ℕ, nat_eq, Option, Some}
use Rattle.std.specs.declared.hash.BuildHasherDefault.{BuildHasherDefault}
use Rattle.std.specs.declared.hash.FoldHasher.{FoldHasher}
use Rattle.std.specs.HashMap.{get, HashMap}
use Rattle.std.specs.Option.{option_map}
use Rattle.rlsf_base.specs.Addr.{at}
use Rattle.rlsf_model.specs.State.{State, IsLive}
use Rattle.rlsf_trace_runs.specs.declared.names.Payload.{Payload}

-- where a payload is
abbrev pub address : Payload → ℕ
address p = at p.addr

-- payloads by their names
abbrev pub NameTable : Type 0
NameTable = HashMap ℕ Payload (BuildHasherDefault FoldHasher)

-- The table has the live payloads of the model's state by their names: where each is, and that it is live with its alignment. No
-- two names have the same address.
pub record AreNamed (s : State) (table : NameTable) (named : ℕ → Option ℕ) : Type 0 where
  pub names : (name : ℕ) → option_map address (get nat_eq table name) ≡ named name
  pub live : (name : ℕ) (p : Payload) → get nat_eq table name ≡ Some p → IsLive s (address p) p.align
  pub one_name : (name other addr : ℕ) → named name ≡ Some addr → named other ≡ Some addr → name ≡ other
