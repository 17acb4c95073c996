-- What a call's answer says of the reply that is made of it.
use Rattle.std.proofs.Common.{◌≡◌, Result, Ok, Err, sym, subst}
use Rattle.std.specs.Prelude.{OnErr}
use Rattle.std.specs.declared.num.NonZeroUsize.{NonZeroUsize}
use Rattle.rlsf_base.specs.declared.memory.layout.Layout.{Layout}
use Rattle.rlsf_global.specs.declared.entry.Call.{Call}
use Rattle.rlsf_global.specs.declared.entry.Call.TheVariants.{Allocate}
use Rattle.rlsf_global.specs.declared.entry.Reply.TheVariants.{Placed, NoRoom}
use Rattle.rlsf_global.specs.Journal.Replay.{CallLeads}
use Rattle.rlsf_model_global.specs.declared.error.GlobalError.{GlobalError}
use Rattle.rlsf_model_global.specs.declared.error.GlobalError.TheVariants as error
use Rattle.rlsf_model_global.specs.Heap.{Heap}
use Rattle.rlsf_model_global.specs.Steps.{HeapAllocates, Placed as Answer}

-- an allocation that finds no room leads on by that reply
pub no_room : (h g : Heap) {call : Call} {layout : Layout} {r : Answer} {e : GlobalError} → call ≡ Allocate layout → r ≡ Err e → e ≡ error.NoRoom
    → HeapAllocates h layout r g → CallLeads h call NoRoom g
no_room h g {layout = layout} is_call is_err is_error step =
    subst (λ call. CallLeads h call NoRoom g) (sym is_call)
    (subst (λ e. HeapAllocates h layout (Err e) g) is_error (subst (λ r. HeapAllocates h layout r g) is_err step))

-- and one that places a payload leads on by its address
pub placed : (h g : Heap) {call : Call} {layout : Layout} {r : Answer} {addr : NonZeroUsize} → call ≡ Allocate layout → r ≡ Ok addr → HeapAllocates h layout r g
    → CallLeads h call (Placed addr) g
placed h g {layout = layout} {addr = addr} is_call is_ok step =
    subst (λ call. CallLeads h call (Placed addr) g) (sym is_call) (subst (λ r. HeapAllocates h layout r g) is_ok step)

-- what an error leaves
pub on_err : {A E P : Type 0} {r : Result A E} {e : E} → r ≡ Err e → OnErr r P → P
on_err {P = P} is_err left = subst (λ r. OnErr r P) is_err left
