-- The blocks of a well-formed state, used and free.
use Rattle.std.proofs.Common.{◌≡◌, ℕ, ◌+◌, ◌<◌, ◌≤◌, sym, ◌∙◌, ap, subst}
use Rattle.rlsf_base.specs.declared.memory.range.Range.{Range}
use Rattle.rlsf_base.specs.Range.{end_of}
use Rattle.rlsf_model.specs.Lists.{IsIn}
use Rattle.rlsf_model.specs.State.{State}
use Rattle.rlsf_model.specs.WellFormed.{IsWellFormed, IsWhole}
use Rattle.rlsf_model.proofs.Payloads.{IsUsed-some}
use Rattle.rlsf_model.proofs.Tiling.{LiesInChunk}
use Rattle.rlsf_blocks.specs.Blocks.{Block, HasBlock, used, free}
use Rattle.rlsf_blocks.proofs.Words.Apart.{Has, free_free, free_last, home_of_free, home_of_used, used_free, used_last, used_used}

-- two blocks with the same range, both used or both free, are one
pub Block-same : (b c : Block) → b.range ≡ c.range → b.is_occupied ≡ c.is_occupied → b ≡ c
Block-same b c range occupied =
    let first : b ≡ record { range = c.range; is_occupied = b.is_occupied } = ap (λ r. record { range = r; is_occupied = b.is_occupied }) range in
    first ∙ ap (λ o. record { range = c.range; is_occupied = o }) occupied

-- an address of a range is one of an equal range
pub Has-same : {q r : Range} {a : ℕ} → q ≡ r → Has q a → Has r a
Has-same {q} {r} {a} same h = subst (λ x. Has x a) same h

module _ {fllen sllen : ℕ} {memory : Range} {s : State} (w : IsWellFormed fllen sllen memory s) where
  pub IsWhole-block : (b : Block) → HasBlock s b → IsWhole b.range
  IsWhole-block b (used u i same o) = subst IsWhole (sym same) (w.used u i).whole
  IsWhole-block b (free i o) = (w.free b.range i).whole

  pub block-some : (b : Block) → HasBlock s b → 0 < b.range.len
  block-some b (used u i same o) = subst (λ r. 0 < r.len) (sym same) (IsUsed-some u (w.used u i))
  block-some b (free i o) = (w.free b.range i).some

  -- the chunk that it lies in
  pub home_of_block : (b : Block) → HasBlock s b → LiesInChunk s b.range
  home_of_block b (used u i same o) = subst (LiesInChunk s) (sym same) (home_of_used w u i)
  home_of_block b (free i o) = home_of_free w b.range i

  -- two blocks with an address in common are one
  pub block_block : (b c : Block) (a : ℕ) → HasBlock s b → HasBlock s c → Has b.range a → Has c.range a → b ≡ c
  block_block b c a (used u i same_b o) (used v j same_c p) hb hc =
      let is = used_used w u v a i j (Has-same same_b hb) (Has-same same_c hc) in
      Block-same b c (same_b ∙ ap (λ x. x.block) is ∙ sym same_c) (o ∙ sym p)
  block_block b c a (used u i same_b o) (free j p) hb hc = absurd (used_free w u c.range a i j (Has-same same_b hb) hc)
  block_block b c a (free i o) (used v j same_c p) hb hc = absurd (used_free w v b.range a j i (Has-same same_c hc) hb)
  block_block b c a (free i o) (free j p) hb hc = Block-same b c (free_free w b.range c.range a i j hb hc) (o ∙ sym p)

  -- it has none of a chunk's last bytes
  pub block_last : (b : Block) (c : Range) (a : ℕ) → HasBlock s b → IsIn c s.chunks → Has b.range a → end_of c ≤ a + 32 → a < end_of c → ⊥
  block_last b c a (used u i same o) j h low high = used_last w u c a i j (Has-same same h) low high
  block_last b c a (free i o) j h low high = free_last w b.range c a i j h low high
