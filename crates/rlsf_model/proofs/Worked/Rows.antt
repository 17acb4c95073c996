-- The reference model on literals: its replies, and the blocks and free ranges that it has then.
use Rattle.std.proofs.Common.{◌≡◌, ℕ, true, List, [], ◌∷◌, Some, None, refl, subst}
use Rattle.rlsf_base.specs.declared.memory.range.Range.{Range}
use Rattle.rlsf_base.specs.Range.{range_at}
use Rattle.rlsf_model.specs.Run.{Event, insert, append, allocate, deallocate, reallocate, Runs}
use Rattle.rlsf_model.specs.State.{State, empty}
use Rattle.rlsf_model.proofs.Examples.{Block, block, seen, all_after, all_events, may_call_all, Runs-all}

-- these calls with these replies lead from the empty state to these used blocks, the newest first, and these
-- free ranges
record Gives (fllen sllen : ℕ) (memory : Range) (events : List Event) (used : List Block) (free : List Range) : Type 0 where
  after : State
  run : Runs fllen sllen memory empty events after
  used_is : seen after.used ≡ used
  free_is : after.free ≡ free

-- calls of which each may be made and has the reply that is computed
gives : {fllen sllen : ℕ} {memory : Range} {events : List Event} {used : List Block} {free : List Range} → may_call_all fllen sllen memory empty events ≡ true
    → all_events fllen sllen empty events ≡ events → seen (all_after fllen sllen empty events).used ≡ used → (all_after fllen sllen empty events).free ≡ free
    → Gives fllen sllen memory events used free
gives {fllen} {sllen} {memory} {events} may replies used free =
    let run = Runs-all fllen sllen memory empty events may in
    record {
      after = all_after fllen sllen empty events;
      run = subst (λ es. Runs fllen sllen memory empty es (all_after fllen sllen empty events)) replies run;
      used_is = used;
      free_is = free;
    }

-- two blocks of 32 bytes are allocated, and their freed ranges join
freed_blocks_join : Gives 8 8 (range_at 4096 4096)
    (insert (range_at 4096 96) (Some 96) ∷ allocate 0 1 (Some 4112) ∷ allocate 0 1 (Some 4144) ∷ allocate 0 1 None ∷ deallocate 4112 ∷ deallocate 4144 ∷ [])
    ([])
    (range_at 4096 64 ∷ [])
freed_blocks_join = gives refl refl refl refl

-- a block that shrinks leaves its tail, which the next allocation takes
tail_becomes_free : Gives 8 8 (range_at 4096 4096)
    (insert (range_at 4096 96) (Some 96) ∷ allocate 17 1 (Some 4112) ∷ reallocate 4112 0 (Some 4112) ∷ allocate 0 1 (Some 4144) ∷ [])
    (block 4128 32 4144 ∷ block 4096 32 4112 ∷ [])
    ([])
tail_becomes_free = gives refl refl refl refl

-- without a greatest length of chunks, an append makes room for what was refused
coalescing_append : Gives 59 8 (range_at 4096 4096)
    (insert (range_at 4096 256) (Some 256) ∷ allocate 384 1 None ∷ append (range_at 4352 256) 256 ∷ allocate 384 1 (Some 4112) ∷ [])
    (block 4096 416 4112 ∷ [])
    (range_at 4512 64 ∷ [])
coalescing_append = gives refl refl refl refl

-- with one, the appended bytes stay a chunk of their own
append_of_own_chunks : Gives 8 8 (range_at 4096 4096)
    (insert (range_at 4096 256) (Some 256) ∷ allocate 384 1 None ∷ append (range_at 4352 256) 256 ∷ allocate 384 1 None ∷ [])
    ([])
    (range_at 4352 224 ∷ range_at 4096 224 ∷ [])
append_of_own_chunks = gives refl refl refl refl

-- one class a row: the range of 96 bytes is long enough, but its class doesn't reach
long_enough_without_reach : Gives 8 1 (range_at 4096 4096)
    (insert (range_at 4096 128) (Some 128) ∷ allocate 66 1 None ∷ [])
    ([])
    (range_at 4096 96 ∷ [])
long_enough_without_reach = gives refl refl refl refl

-- eight classes a row: its class reaches
long_enough_with_reach : Gives 8 8 (range_at 4096 4096)
    (insert (range_at 4096 128) (Some 128) ∷ allocate 66 1 (Some 4112) ∷ [])
    (block 4096 96 4112 ∷ [])
    ([])
long_enough_with_reach = gives refl refl refl refl

-- a start that is no multiple of 32: the answer counts the bytes that are skipped
skipped_front_counts : Gives 8 8 (range_at 4097 4096)
    (insert (range_at 4097 1024) (Some 1023) ∷ [])
    ([])
    (range_at 4128 960 ∷ [])
skipped_front_counts = gives refl refl refl refl

-- a range is cut into chunks of the greatest length, the last of which is the newest
chunks_of_greatest_length : Gives 1 1 (range_at 4096 4096)
    (insert (range_at 4096 200) (Some 192) ∷ allocate 0 1 (Some 4240) ∷ allocate 0 1 (Some 4176) ∷ allocate 0 1 (Some 4112) ∷ allocate 0 1 None ∷ [])
    (block 4096 32 4112 ∷ block 4160 32 4176 ∷ block 4224 32 4240 ∷ [])
    ([])
chunks_of_greatest_length = gives refl refl refl refl

-- fewer than 64 bytes behind the last chunk are left
remainder_is_left : Gives 1 1 (range_at 4096 4096)
    (insert (range_at 4096 160) (Some 128) ∷ [])
    ([])
    (range_at 4160 32 ∷ range_at 4096 32 ∷ [])
remainder_is_left = gives refl refl refl refl

-- of two free ranges of one class the newest is taken
newest_first : Gives 8 8 (range_at 4096 4096)
    (insert (range_at 4096 256) (Some 256) ∷ allocate 0 1 (Some 4112) ∷ allocate 0 1 (Some 4144) ∷ allocate 0 1 (Some 4176) ∷ allocate 0 1 (Some 4208) ∷ deallocate 4112
    ∷ deallocate 4176 ∷ allocate 0 1 (Some 4176) ∷ [])
    (block 4160 32 4176 ∷ block 4192 32 4208 ∷ block 4128 32 4144 ∷ [])
    (range_at 4096 32 ∷ range_at 4224 96 ∷ [])
newest_first = gives refl refl refl refl

-- a reallocation takes the previous range and all of its own block
into_previous_range : Gives 8 8 (range_at 4096 4096)
    (insert (range_at 4096 256) (Some 256) ∷ allocate 0 1 (Some 4112) ∷ allocate 40 1 (Some 4144) ∷ allocate 100 1 (Some 4208) ∷ deallocate 4112
    ∷ reallocate 4144 70 (Some 4112) ∷ [])
    (block 4096 96 4112 ∷ block 4192 128 4208 ∷ [])
    ([])
into_previous_range = gives refl refl refl refl

-- then one that finds no room is refused, and nothing changes
refused_reallocation : Gives 8 8 (range_at 4096 4096)
    (insert (range_at 4096 256) (Some 256) ∷ allocate 0 1 (Some 4112) ∷ allocate 40 1 (Some 4144) ∷ allocate 100 1 (Some 4208) ∷ deallocate 4112
    ∷ reallocate 4144 70 (Some 4112) ∷ reallocate 4112 200 None ∷ [])
    (block 4096 96 4112 ∷ block 4192 128 4208 ∷ [])
    ([])
refused_reallocation = gives refl refl refl refl

-- a reallocation takes a longer previous range, and a rest is left
into_longer_previous_range : Gives 8 8 (range_at 4096 4096)
    (insert (range_at 4096 256) (Some 256) ∷ allocate 17 1 (Some 4112) ∷ allocate 40 1 (Some 4176) ∷ allocate 50 1 (Some 4240) ∷ deallocate 4112
    ∷ reallocate 4176 70 (Some 4112) ∷ [])
    (block 4096 96 4112 ∷ block 4224 96 4240 ∷ [])
    (range_at 4192 32 ∷ [])
into_longer_previous_range = gives refl refl refl refl

-- at the top of the address space a start is rounded up past it: nothing is inserted
nothing_at_the_top : Gives 8 8 (range_at 18446744073709551552 63)
    (insert (range_at 18446744073709551585 0) None ∷ [])
    ([])
    ([])
nothing_at_the_top = gives refl refl refl refl

-- a chunk that ends a few bytes below the top
chunk_at_the_top : Gives 8 8 (range_at 18446744073709551424 191)
    (insert (range_at 18446744073709551424 191) (Some 160) ∷ allocate 0 1 (Some 18446744073709551440) ∷ [])
    (block 18446744073709551424 32 18446744073709551440 ∷ [])
    (range_at 18446744073709551456 96 ∷ [])
chunk_at_the_top = gives refl refl refl refl

-- an append of 32 bytes makes a chunk's last bytes free
append_of_one_unit : Gives 59 8 (range_at 4096 4096)
    (insert (range_at 4096 64) (Some 64) ∷ allocate 0 1 (Some 4112) ∷ append (range_at 4160 31) 0 ∷ append (range_at 4160 32) 32 ∷ [])
    (block 4096 32 4112 ∷ [])
    (range_at 4128 32 ∷ [])
append_of_one_unit = gives refl refl refl refl

-- where chunks have a greatest length, fewer than 64 bytes are no chunk
append_of_too_little : Gives 8 8 (range_at 4096 4096)
    (insert (range_at 4096 64) (Some 64) ∷ allocate 0 1 (Some 4112) ∷ append (range_at 4160 31) 0 ∷ append (range_at 4160 32) 0 ∷ [])
    (block 4096 32 4112 ∷ [])
    ([])
append_of_too_little = gives refl refl refl refl

-- an alignment of 4096: the payload lies far into its block
aligned_to_a_page : Gives 8 8 (range_at 4096 8192)
    (insert (range_at 4096 8192) (Some 8192) ∷ allocate 1 4096 (Some 8192) ∷ [])
    (block 4096 4128 8192 ∷ [])
    (range_at 8224 4032 ∷ [])
aligned_to_a_page = gives refl refl refl refl

-- an aligned block can be shorter than what was sought
shorter_than_sought : Gives 8 8 (range_at 4096 4096)
    (insert (range_at 4096 256) (Some 256) ∷ allocate 0 1 (Some 4112) ∷ allocate 1 64 (Some 4160) ∷ [])
    (block 4128 64 4160 ∷ block 4096 32 4112 ∷ [])
    (range_at 4192 128 ∷ [])
shorter_than_sought = gives refl refl refl refl

-- what an allocation leaves of a range is newer than an older range of its class
rest_is_newest : Gives 8 8 (range_at 4096 4096)
    (insert (range_at 4096 64) (Some 64) ∷ insert (range_at 4352 160) (Some 160) ∷ allocate 66 1 (Some 4368) ∷ allocate 0 1 (Some 4464) ∷ [])
    (block 4448 32 4464 ∷ block 4352 96 4368 ∷ [])
    (range_at 4096 32 ∷ [])
rest_is_newest = gives refl refl refl refl

-- and so is the tail of a block that shrinks
tail_is_newest : Gives 8 8 (range_at 4096 4096)
    (insert (range_at 4352 96) (Some 96) ∷ allocate 40 1 (Some 4368) ∷ insert (range_at 4096 64) (Some 64) ∷ reallocate 4368 0 (Some 4368) ∷ allocate 0 1 (Some 4400)
    ∷ [])
    (block 4384 32 4400 ∷ block 4352 32 4368 ∷ [])
    (range_at 4096 32 ∷ [])
tail_is_newest = gives refl refl refl refl

-- and what is left of the next range
rest_of_the_next_is_newest : Gives 8 8 (range_at 4096 4096)
    (insert (range_at 4352 160) (Some 160) ∷ allocate 40 1 (Some 4368) ∷ insert (range_at 4096 64) (Some 64) ∷ reallocate 4368 70 (Some 4368) ∷ allocate 0 1 (Some 4464)
    ∷ [])
    (block 4448 32 4464 ∷ block 4352 96 4368 ∷ [])
    (range_at 4096 32 ∷ [])
rest_of_the_next_is_newest = gives refl refl refl refl

-- and what is left of the previous range and the block
rest_of_the_previous_is_newest : Gives 8 8 (range_at 4096 4096)
    (insert (range_at 4352 192) (Some 192) ∷ allocate 40 1 (Some 4368) ∷ allocate 40 1 (Some 4432) ∷ deallocate 4368 ∷ insert (range_at 4096 64) (Some 64)
    ∷ allocate 10 1 (Some 4112) ∷ allocate 0 1 (Some 4496) ∷ insert (range_at 4864 64) (Some 64) ∷ reallocate 4432 72 (Some 4368) ∷ allocate 0 1 (Some 4464) ∷ [])
    (block 4448 32 4464 ∷ block 4352 96 4368 ∷ block 4480 32 4496 ∷ block 4096 32 4112 ∷ [])
    (range_at 4864 32 ∷ [])
rest_of_the_previous_is_newest = gives refl refl refl refl

-- a block grows into the next range
into_next_range : Gives 8 8 (range_at 4096 4096)
    (insert (range_at 4096 512) (Some 512) ∷ allocate 40 1 (Some 4112) ∷ reallocate 4112 100 (Some 4112) ∷ [])
    (block 4096 128 4112 ∷ [])
    (range_at 4224 352 ∷ [])
into_next_range = gives refl refl refl refl

-- a block without a free neighbour moves, and leaves its range free
moves_elsewhere : Gives 8 8 (range_at 4096 4096)
    (insert (range_at 4096 512) (Some 512) ∷ allocate 40 1 (Some 4112) ∷ allocate 40 1 (Some 4176) ∷ reallocate 4112 100 (Some 4240) ∷ [])
    (block 4224 128 4240 ∷ block 4160 64 4176 ∷ [])
    (range_at 4096 64 ∷ range_at 4352 224 ∷ [])
moves_elsewhere = gives refl refl refl refl
