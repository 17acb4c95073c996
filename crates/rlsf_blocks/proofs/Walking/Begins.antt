-- Where blocks begin: at a chunk's start, behind another block, and behind a chunk.
use Rattle.std.proofs.Common.{◌≡◌, ℕ, ◌+◌, ◌-◌, ◌≤◌, arith, inl, inr, ap}
use Rattle.std.proofs.lemmas.Bool.{cases_lt}
use Rattle.rlsf_base.specs.declared.memory.range.Range.{Range}
use Rattle.rlsf_base.specs.Range.{end_of}
use Rattle.rlsf_blocks.specs.Blocks.{Block, HasBlock}
use Rattle.rlsf_blocks.specs.InBand.{sentinel_of}
use Rattle.rlsf_blocks.specs.Steps.Walk.{BlockBegins}
use Rattle.rlsf_model.specs.Lists.{IsIn}
use Rattle.rlsf_model.specs.State.{State}
use Rattle.rlsf_model.specs.WellFormed.{IsWellFormed}
use Rattle.rlsf_blocks.proofs.Walking.Blocks.{block-some, block_block, block_last, home_of_block}
use Rattle.rlsf_blocks.proofs.Walking.Places.{in_block, in_last_bytes, block_place}
use Rattle.rlsf_blocks.proofs.Words.Apart.{Has, chunk_chunk}

-- behind a block that ends at an address, in a chunk that ends at another: a block, or the chunk's last 32 bytes
pub data BehindBlock (s : State) (a end : ℕ) : Type 0 where
  block_behind : BlockBegins s a → BehindBlock s a end
  end_behind : (c : Range) → IsIn c s.chunks → sentinel_of c ≡ a → a + 32 ≡ end → BehindBlock s a end

module _ {fllen sllen : ℕ} {memory : Range} {s : State} (w : IsWellFormed fllen sllen memory s) where
  -- a block that has an address of a chunk lies in it, before its last 32 bytes
  pub lies_in_same_chunk : (b : Block) → HasBlock s b → (c : Range) → IsIn c s.chunks → (a : ℕ) → Has b.range a → Has c a
      → (c.start ≤ b.range.start) × (end_of b.range + 32 ≤ end_of c)
  lies_in_same_chunk b i c j a hb hc =
      let home = home_of_block w b i in
      let same = chunk_chunk w home.chunk c a home.is_chunk j (record { from = omega (arith, home.from, hb.from); to = omega (arith, home.to, hb.to) }) hc in
      (omega (arith, home.from, ap (λ r. r.start) same), omega (arith, home.to, ap (λ r. end_of r) same))

  -- a block begins where a chunk begins
  pub begins_at_chunk : (c : Range) → IsIn c s.chunks → BlockBegins s c.start
  begins_at_chunk c i =
      let room = (w.chunks c i).has_room in
      let first : Has c c.start = record { from = omega arith; to = omega arith } in
      elim (block_place w c i c.start first) [
        | in_block b j h ↦ (b, j, omega (arith, h.from, (lies_in_same_chunk b j c i c.start h first).0))
        | in_last_bytes d j h ↦
            let room_d = (w.chunks d j).has_room in
            let same = chunk_chunk w d c c.start j i (record { from = omega (arith, h.from); to = omega (arith, h.to) }) first in
            absurd (omega (arith, h.from, ap (λ r. r.start) same, ap (λ r. end_of r) same))
      ]

  -- a chunk that has the address where another ends begins there
  pub begins_behind_chunk : (c d : Range) → IsIn c s.chunks → IsIn d s.chunks → Has d (end_of c) → d.start ≡ end_of c
  begins_behind_chunk c d i j h = elim (cases_lt d.start (end_of c)) [
    | inl before ↦
        let room = (w.chunks c i).has_room in
        let same = chunk_chunk w d c (end_of c - 1) j i (record { from = omega arith; to = omega (arith, h.to) }) (record { from = omega arith; to = omega arith }) in
        absurd (omega (arith, h.to, ap (λ r. end_of r) same))
    | inr behind ↦ omega (arith, h.from)
  ]

  -- what is behind a block
  pub behind_block : (b : Block) → HasBlock s b → (c : Range) → IsIn c s.chunks → Has c b.range.start → BehindBlock s (end_of b.range) (end_of c)
  behind_block b i c j hc =
      let some = block-some w b i in
      let last : Has b.range (end_of b.range - 1) = record { from = omega arith; to = omega arith } in
      let within = lies_in_same_chunk b i c j b.range.start (record { from = omega arith; to = omega arith }) hc in
      let next : Has c (end_of b.range) = record { from = omega (arith, within.0); to = omega (arith, within.1) } in
      elim (block_place w c j (end_of b.range) next) [
        | in_block d k h ↦ block_behind (
          d,
          k,
          elim (cases_lt d.range.start (end_of b.range)) [
            | inl before ↦
                let same = block_block w d b (end_of b.range - 1) k i (record { from = omega arith; to = omega (arith, h.to) }) last in
                absurd (omega (arith, h.to, ap (λ x. end_of x.range) same))
            | inr behind ↦ omega (arith, h.from)
          ],
        )
        | in_last_bytes d k h ↦
            let room = (w.chunks d k).has_room in
            let same = chunk_chunk w d c (end_of b.range) k j (record { from = omega (arith, h.from); to = omega (arith, h.to) }) next in
            let begins : sentinel_of d ≡ end_of b.range = elim (cases_lt (sentinel_of d) (end_of b.range)) [
              | inl before ↦ absurd (block_last w b d (end_of b.range - 1) i k last (omega arith) (omega (arith, h.to)))
              | inr behind ↦ omega (arith, h.from)
            ] in
            end_behind d k begins (omega (arith, begins, ap (λ r. end_of r) same))
      ]
