-- Lists of calls with their replies, and where they lead.
use Rattle.std.specs.Prelude.{◌≡◌, ℕ, List, [], ◌∷◌, length, Option, None}
use Rattle.rlsf_base.specs.declared.memory.range.Range.{Range}
use Rattle.rlsf_model_sizes.specs.PowerOfTwo.{IsPowerOfTwo}
use Rattle.rlsf_model.specs.Allocate.{Allocates}
use Rattle.rlsf_model.specs.Insert.{IsFresh, IsNext, Inserts, Appends}
use Rattle.rlsf_model.specs.Reallocate.{Reallocates}
use Rattle.rlsf_model.specs.Release.{Deallocates}
use Rattle.rlsf_model.specs.Remove.{IsRemovable, Removes}
use Rattle.rlsf_model.specs.State.{State, Used, Holds, filled}

-- the caller of the payload at an address leaves these bytes in it, as many as it has
pub record Fills (s : State) (addr : ℕ) (bytes : List ℕ) (t : State) : Type 0 where
  pub block : Used
  pub holds : Holds s addr block
  pub length : length bytes ≡ length block.bytes
  pub after : t ≡ filled s addr bytes

-- A call with its reply: a range is inserted, or appended to a chunk; a layout, by its size and its alignment, is allocated; a
-- payload is deallocated, gets another size, or is written; a range is removed; or, over a source, so many of the newest ranges are
-- returned
pub data Event : Type 0 where
  insert : Range → Option ℕ → Event
  append : Range → ℕ → Event
  allocate : ℕ → ℕ → Option ℕ → Event
  deallocate : ℕ → Event
  reallocate : ℕ → ℕ → Option ℕ → Event
  fill : ℕ → List ℕ → Event
  remove : Range → Event
  trim : ℕ → Event

-- a call with its reply leads from one state to another; without a source there is no trim
abbrev pub Leads : ℕ → ℕ → State → Event → State → Type 0
Leads fllen sllen s (insert r reply) t = Inserts fllen s r reply t
Leads fllen sllen s (append r reply) t = Appends fllen s r reply t
Leads fllen sllen s (allocate size align reply) t = Allocates sllen s size align reply t
Leads fllen sllen s (deallocate addr) t = Deallocates s addr t
Leads fllen sllen s (reallocate addr size reply) t = Reallocates sllen s addr size reply t
Leads fllen sllen s (fill addr bytes) t = Fills s addr bytes t
Leads fllen sllen s (remove r) t = Removes s r t
Leads fllen sllen s (trim count) t = ⊥

-- some payload is live at the address
abbrev pub IsSomeLive : State → ℕ → Type 0
IsSomeLive s addr = (u : Used) × Holds s addr u

-- what a call requires of its caller
abbrev pub MayCall : Range → State → Event → Type 0
MayCall memory s (insert r reply) = IsFresh memory s r
MayCall memory s (append r reply) = IsNext memory s r
MayCall memory s (allocate size align reply) = IsPowerOfTwo align
MayCall memory s (deallocate addr) = IsSomeLive s addr
MayCall memory s (reallocate addr size reply) = IsSomeLive s addr
MayCall memory s (fill addr bytes) = IsSomeLive s addr
MayCall memory s (remove r) = IsRemovable s r
MayCall memory s (trim count) = ⊥

-- two calls are the same, whatever their replies
abbrev pub IsSameCall : Event → Event → Type 0
IsSameCall (insert r m) (insert q n) = r ≡ q
IsSameCall (append r m) (append q n) = r ≡ q
IsSameCall (allocate size align m) (allocate size' align' n) = (size ≡ size') × (align ≡ align')
IsSameCall (deallocate addr) (deallocate addr') = addr ≡ addr'
IsSameCall (reallocate addr size m) (reallocate addr' size' n) = (addr ≡ addr') × (size ≡ size')
IsSameCall (fill addr bytes) (fill addr' bytes') = (addr ≡ addr') × (bytes ≡ bytes')
IsSameCall (remove r) (remove q) = r ≡ q
IsSameCall (trim m) (trim n) = Unit {0}
IsSameCall e e' = ⊥

-- the call was refused: it had no room, or no chunk to make
abbrev pub IsCallRefused : Event → Type 0
IsCallRefused (insert r reply) = reply ≡ None
IsCallRefused (append r reply) = ⊥
IsCallRefused (allocate size align reply) = reply ≡ None
IsCallRefused (deallocate addr) = ⊥
IsCallRefused (reallocate addr size reply) = reply ≡ None
IsCallRefused (fill addr bytes) = ⊥
IsCallRefused (remove r) = ⊥
IsCallRefused (trim count) = ⊥

-- the call names the payload at the address
abbrev pub CallNames : Event → ℕ → Type 0
CallNames (insert r reply) addr = ⊥
CallNames (append r reply) addr = ⊥
CallNames (allocate size align reply) addr = ⊥
CallNames (deallocate at) addr = at ≡ addr
CallNames (reallocate at size reply) addr = at ≡ addr
CallNames (fill at bytes) addr = at ≡ addr
CallNames (remove r) addr = ⊥
CallNames (trim count) addr = ⊥

-- the call removes memory
abbrev pub IsRemoval : Event → Type 0
IsRemoval (remove r) = Unit {0}
IsRemoval e = ⊥

-- a list of calls with their replies, one after another, each of which its caller may make
abbrev pub Runs : ℕ → ℕ → Range → State → List Event → State → Type 0
Runs fllen sllen memory s [] t = t ≡ s
Runs fllen sllen memory s (e ∷ es) t = (u : State) × MayCall memory s e × Leads fllen sllen s e u × Runs fllen sllen memory u es t
