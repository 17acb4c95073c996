-- What a call of the allocator behind the lock leaves of the memory is what the call of the book does.
use Rattle.std.proofs.Common.{◌≡◌, ◌≢◌, ◌≤◌, Result, Ok, Err, refl, sym, subst}
use Rattle.std.specs.Prelude.{OnOk}
use Rattle.rlsf_base.specs.declared.memory.layout.Layout.{Layout}
use Rattle.std.specs.declared.num.NonZeroUsize.{NonZeroUsize}
use Rattle.rlsf_global.specs.Locked.{LockedContents, flex_of}
use Rattle.rlsf_global.specs.Memory.{IfUnasked, KeepsMemory}
use Rattle.rlsf_global.specs.declared.entry.Call.{Call}
use Rattle.rlsf_global.specs.declared.entry.Call.TheVariants.{Allocate, Deallocate, Reallocate}
use Rattle.rlsf_global.specs.declared.entry.Reply.{Reply}
use Rattle.rlsf_global.specs.Journal.Memory.{Copies, IfUntried, IsBounded, LeavesMemory}
use Rattle.rlsf_model_global.specs.declared.error.GlobalError.{GlobalError}
use Rattle.rlsf_model_global.specs.declared.error.GlobalError.TheVariants as error
use Rattle.rlsf_model_global.specs.Steps.{Placed as Answer}

-- after an error other than `NoRoom`, what holds if the allocator was asked nothing
unasked : {P : Type 0} (e : GlobalError) → e ≢ error.NoRoom → IfUnasked {A = NonZeroUsize} (Err e) P → P
unasked error.NoRoom other holds = absurd (other refl)
unasked error.UnknownAddress other holds = holds
unasked error.WrongLayout other holds = holds
unasked error.TableMemory other holds = holds
unasked error.OutOfRange other holds = holds
unasked error.JournalMemory other holds = holds

pub on_unasked : {P : Type 0} {r : Answer} {e : GlobalError} → r ≡ Err e → e ≢ error.NoRoom → IfUnasked r P → P
on_unasked {P = P} {e = e} is_err other holds = unasked e other (subst (λ r. IfUnasked r P) is_err holds)

-- what is said of a result holds if there is one
pub on_ok : {A P : Type 0} {r : Result A GlobalError} {x : A} → r ≡ Ok x → OnOk r P → P
on_ok {P = P} is_ok holds = subst (λ r. OnOk r P) is_ok holds

module _ {call : Call} {before after : LockedContents} where
  pub allocation_leaves : {layout : Layout} → call ≡ Allocate layout → KeepsMemory (flex_of before) (flex_of after)
      → IsBounded before.heap (Allocate layout) before.memory after.memory → before.memory.touches ≤ after.memory.touches
      → after.memory.copied ≡ before.memory.copied → (reply : Reply) → IfUntried reply (after.memory ≡ before.memory) → LeavesMemory call reply before after
  allocation_leaves is memory touches grow copied reply untried =
      subst (λ call. LeavesMemory call reply before after) (sym is)
      (record { memory = memory; touches = touches; grow = grow; copied = copied; untried = untried })

  pub deallocation_leaves : {addr : NonZeroUsize} → call ≡ Deallocate addr → KeepsMemory (flex_of before) (flex_of after)
      → IsBounded before.heap (Deallocate addr) before.memory after.memory → before.memory.touches ≤ after.memory.touches
      → after.memory.copied ≡ before.memory.copied → (reply : Reply) → IfUntried reply (after.memory ≡ before.memory) → LeavesMemory call reply before after
  deallocation_leaves is memory touches grow copied reply untried =
      subst (λ call. LeavesMemory call reply before after) (sym is)
      (record { memory = memory; touches = touches; grow = grow; copied = copied; untried = untried })

  pub reallocation_leaves : {addr : NonZeroUsize} {layout : Layout} → call ≡ Reallocate addr layout → KeepsMemory (flex_of before) (flex_of after)
      → IsBounded before.heap (Reallocate addr layout) before.memory after.memory → before.memory.touches ≤ after.memory.touches
      → (reply : Reply) → Copies before.heap (Reallocate addr layout) reply before.memory after.memory → IfUntried reply (after.memory ≡ before.memory)
      → LeavesMemory call reply before after
  reallocation_leaves is memory touches grow reply copied untried =
      subst (λ call. LeavesMemory call reply before after) (sym is)
      (record { memory = memory; touches = touches; grow = grow; copied = copied; untried = untried })
