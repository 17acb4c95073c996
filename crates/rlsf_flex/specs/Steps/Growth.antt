-- What the parts of a growth leave.
use Rattle.std.specs.Prelude.{◌≡◌, ℕ, ◌+◌, ◌≤◌, Bool, true, List, Option, Some, None}
use Rattle.std.specs.Bool.{then_some}
use Rattle.std.specs.Option.{option_map, option_to_list}
use Rattle.rlsf_base.specs.declared.memory.range.Range.{Range}
use Rattle.rlsf_base.specs.Space.{SamePlace}
use Rattle.rlsf_blocks.specs.Spare.{KeepsSpare}
use Rattle.rlsf_tlsf.specs.Allocator.{Allocator, Stands}
use Rattle.rlsf_flex.specs.declared.pool.Pool.{Pool}
use Rattle.rlsf_flex.specs.Steps.Outside.{KeepsOutsideNow}
use Rattle.rlsf_flex.specs.SpareBytes.{KeepsSpareButFooter}
use Rattle.rlsf_flex.specs.StandsFor.{FlexContents, FlexStandsFor}
use Rattle.rlsf_model.specs.Answers.{MayAnswer, MayAnswerAll}
use Rattle.rlsf_model.specs.Callers.{align_at, bytes_at}
use Rattle.rlsf_model.specs.FlexState.{FlexState, KeptPool}
use Rattle.rlsf_model.specs.Growth.{Extends, Outcome, TakesIn, range_came, growth_came, is_more, range_length, refused}
use Rattle.rlsf_model.specs.Note.{Note, LeadsBy, alloc, grow}
use Rattle.rlsf_model.specs.Reallocate.{MovesAway}
use Rattle.rlsf_model.specs.Sized.{IsSizedFor, live_count}
use Rattle.rlsf_model.specs.State.{Used, Holds}
use Rattle.rlsf_model.specs.Terms.{Terms}
use Rattle.rlsf_model.specs.PoolLength.{HasFreePool}

-- the outcome of a question for a range
abbrev pub outcome_of_range : Option Range → Outcome
outcome_of_range None = refused
outcome_of_range (Some r) = range_came r

-- the outcome of a question for growth
abbrev pub outcome_of_growth : Option ℕ → Outcome
outcome_of_growth None = refused
outcome_of_growth (Some len) = growth_came len

-- where the newest range begins, or 0 where none is kept
abbrev pub kept_start : Option Pool → ℕ
kept_start None = 0
kept_start (Some k) = k.range.start

-- how long it is, or 0
abbrev pub kept_len : Option Pool → ℕ
kept_len None = 0
kept_len (Some k) = k.range.len

-- what came for e bytes more is what a source may give
abbrev pub MayCome : Terms → FlexState → ℕ → Outcome → Type 0
MayCome t s e refused = Unit {0}
MayCome t s e (range_came r) = (n : ℕ) → range_length t e ≡ Some n → MayAnswer t s.pools (alloc n (Some r))
MayCome t s e (growth_came len) = (k : KeptPool) → s.kept ≡ Some k → MayAnswer t s.pools (grow k.range (k.len + e) (Some len))

-- a value is as it was
pub record IsAsBefore {A : Type 0} (before after : A) : Type 0 where
  pub same : after ≡ before

-- growth leaves every payload, what the pools are sized for, the place of the memory and the count of copied bytes as they were;
-- touches only grow
pub record HasSamePayloads (sllen : ℕ) (before after : Allocator) : Type 0 where
  pub aligns : align_at after.state ≡ align_at before.state
  pub bytes : bytes_at after.state ≡ bytes_at before.state
  pub count : live_count after.state ≡ live_count before.state
  pub bounds : (count size align : ℕ) → IsSizedFor sllen count size align before.state → IsSizedFor sllen count size align after.state
  pub place : SamePlace before.memory after.memory
  pub grow : before.memory.touches ≤ after.memory.touches
  pub copied : after.memory.copied ≡ before.memory.copied

-- what came was inserted or appended, and where something came there is room for a pool of e bytes
pub record Took {S : Type 0} (fllen sllen : ℕ) (terms : S → Terms) (owes : S → List Range → Type 0) (before after : FlexContents S) (e : ℕ)
    (outcome : Outcome) : Type 0 where
  pub takes : TakesIn fllen (terms before.source) before.state outcome after.state
  pub may : MayCome (terms before.source) before.state e outcome
  pub outside : KeepsOutsideNow before.memory before.state.pools after.memory after.state.pools
  pub spare : KeepsSpareButFooter (terms before.source) before.memory before.state after.memory after.state
  pub stands : FlexStandsFor fllen sllen terms owes after
  pub room : is_more outcome ≡ true → HasFreePool e after.state.machine

module _ {S : Type 0} (fllen sllen : ℕ) (terms : S → Terms) (owes : S → List Range → Type 0) (leads : S → Note → S → Type 0) (before after : FlexContents S) where
  -- a range was asked for, if there is a question, and what came was taken in
  pub record AskedRange (e : ℕ) (answer : Option Range) : Type 0 where
    pub notes : LeadsBy leads before.source (option_to_list (option_map (λ n. alloc n answer) (range_length (terms before.source) e))) after.source
    pub asked : range_length (terms before.source) e ≡ None → answer ≡ None
    pub took : Took fllen sllen terms owes before after e (outcome_of_range answer)

  -- growth to n bytes was asked for, if there is a question, and what came was taken in
  pub record AskedGrowth (k : KeptPool) (n e : ℕ) (answer : Option ℕ) : Type 0 where
    pub notes : LeadsBy leads before.source (option_to_list (option_map (λ (g : Range × ℕ). grow g.0 g.1 answer) (then_some (terms before.source).grow (k.range, n)))) after.source
    pub asked : then_some {T = Range × ℕ} (terms before.source).grow (k.range, n) ≡ None → answer ≡ None
    pub took : Took fllen sllen terms owes before after e (outcome_of_growth answer)

  -- the source was asked for e bytes more
  pub record Extended (e : ℕ) (more : Bool) : Type 0 where
    pub outcome : Outcome
    pub notes : List Note
    pub extends : Extends fllen (terms before.source) before.state (Some e) outcome notes after.state
    pub leads_by : LeadsBy leads before.source notes after.source
    pub answers : MayAnswerAll (terms before.source) before.state.pools notes
    pub outside : KeepsOutsideNow before.memory before.state.pools after.memory after.state.pools
    pub spare : KeepsSpareButFooter (terms before.source) before.memory before.state after.memory after.state
    pub stands : FlexStandsFor fllen sllen terms owes after
    pub came : more ≡ is_more outcome
    pub room : is_more outcome ≡ true → HasFreePool e after.state.machine

-- the payload at an address moved to another, and memory and class table represent the state that came of it
pub record MovesPayload (fllen sllen : ℕ) (before after : Allocator) (addr size to : ℕ) : Type 0 where
  pub block : Used
  pub holds : Holds before.state addr block
  pub moves : MovesAway sllen before.state block size to after.state
  pub stands : Stands fllen sllen after
  pub spare : KeepsSpare before.memory before.state after.memory after.state
