-- Each address of a chunk is one of a block, or of the last bytes of a chunk.
use Rattle.std.proofs.Common.{ℕ, true, false, refl}
use Rattle.rlsf_base.specs.declared.memory.range.Range.{Range}
use Rattle.rlsf_model.specs.Lists.{IsIn}
use Rattle.rlsf_model.specs.State.{State, Used}
use Rattle.rlsf_model.specs.WellFormed.{IsWellFormed, last_bytes}
use Rattle.rlsf_blocks.specs.Blocks.{Block, HasBlock, used, free}
use Rattle.rlsf_blocks.proofs.RepresentedStates.Neighbours.{Place, in_free, in_used, in_last, place_of}
use Rattle.rlsf_blocks.proofs.Words.Apart.{Has}

-- an address of a block, or of a chunk's last bytes
pub data BlockPlace (s : State) (a : ℕ) : Type 0 where
  in_block : (b : Block) → HasBlock s b → Has b.range a → BlockPlace s a
  in_last_bytes : (c : Range) → IsIn c s.chunks → Has (last_bytes c) a → BlockPlace s a

-- a used block, as an iteration gives it
pub of_used : Used → Block
of_used u = record { range = u.block; is_occupied = true }

-- a free block, as an iteration gives it
pub of_free : Range → Block
of_free f = record { range = f; is_occupied = false }

pub BlockPlace-of : (s : State) (a : ℕ) → Place s a → BlockPlace s a
unfolding of_used of_free
BlockPlace-of s a (in_free f i h) = in_block (of_free f) (free i refl) h
BlockPlace-of s a (in_used u i h) = in_block (of_used u) (used u i refl refl) h
BlockPlace-of s a (in_last c i h) = in_last_bytes c i h

pub block_place : {fllen sllen : ℕ} {memory : Range} {s : State} → IsWellFormed fllen sllen memory s → (c : Range) → IsIn c s.chunks → (a : ℕ) → Has c a
    → BlockPlace s a
block_place {fllen} {sllen} {memory} {s} w c i a h = BlockPlace-of s a (place_of w c i a h)
