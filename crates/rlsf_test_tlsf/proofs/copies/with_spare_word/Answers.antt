use Rattle.std.proofs.Common.{ℕ, length, lit<, arith, inl, inr, refl, ◌∙◌, ap, subst}
use Rattle.std.proofs.lemmas.List.{length-replicate}
use Rattle.rlsf_base.specs.Range.{end_of, range_at}
use Rattle.rlsf_model.specs.Lists.{IsIn}
use Rattle.rlsf_test_tlsf.proofs.FirstChunk.{chunks-first}
use Rattle.rlsf_test_tlsf.proofs.copies.with_spare_word.Goals as goal

pub set_spare_word-requires : goal.set_spare_word-requires
set_spare_word-requires g c =
    let chunk = range_at 4096 256 in
    let made = c.zeros.ensures in
    let room = c.requires in
    let one = chunks-first 8 8 c.new-tlsf.result c.insert_free_block.new.self chunk c.new-tlsf.ensures.state refl refl refl c.insert_free_block.ensures.step in
    let start = ap (λ m. m.start) c.new-tlsf.ensures.memory ∙ made.start in
    let long = ap (λ m. length m.bytes) c.new-tlsf.ensures.memory ∙ ap length made.bytes ∙ length-replicate {A = ℕ} 288 0 in
    let kept = c.insert_free_block.ensures.frame.place in (
      lit< tt,
      (
        (room.0, (omega (arith, start, long, kept, room), omega (arith, start, long, kept, room))),
        λ a from to d i low high.
            elim (subst (λ ds. IsIn d ds) one i) [
              | inl first ↦ omega (arith, from, room.1, ap (λ r. end_of r) first)
              | inr none ↦ absurd none
            ],
      ),
    )
