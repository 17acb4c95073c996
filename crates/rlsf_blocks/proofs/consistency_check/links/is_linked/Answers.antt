use Rattle.std.proofs.Common.{◌≢◌, refl, sym, ◌∙◌, subst}
use Rattle.rlsf_base.specs.Range.{range_at}
use Rattle.rlsf_blocks.specs.Consistency.Linked.{IsNeighbour}
use Rattle.rlsf_blocks.proofs.consistency_check.links.is_linked.Goals as goal

pub returns-then-previous-eq0 : goal.returns-then-previous-eq0
returns-then-previous-eq0 g c =
    let f = range_at c.args.block c.args.len in
    let none = sym c.word-previous.ensures ∙ c.if-previous-eq0.true in (
      λ head. record {
        next = subst (λ n. n ≢ 0 → IsNeighbour g.row.SLLEN c.args.pools.now c.args.memory.now f n 24) c.word-next.ensures (c.if-not-leads_back.ensures.0 refl);
        previous = λ some. absurd (some none);
        head = λ _. c.is_head.ensures.0 head;
      },
      λ is. c.is_head.ensures.1 (is.head none),
    )

pub returns-else-previous-eq0 : goal.returns-else-previous-eq0
returns-else-previous-eq0 g c =
    let f = range_at c.args.block c.args.len in
    let some : c.word-previous.result ≢ 0 = c.if-previous-eq0.false in (
      λ is. record {
        next = subst (λ n. n ≢ 0 → IsNeighbour g.row.SLLEN c.args.pools.now c.args.memory.now f n 24) c.word-next.ensures (c.if-not-leads_back.ensures.0 refl);
        previous = λ _. subst (λ n. IsNeighbour g.row.SLLEN c.args.pools.now c.args.memory.now f n 16) c.word-previous.ensures (c.is_neighbour.ensures.0 is);
        head = λ none. absurd (some (c.word-previous.ensures ∙ none));
      },
      λ is. c.is_neighbour.ensures.1 (subst (λ n. IsNeighbour g.row.SLLEN c.args.pools.now c.args.memory.now f n 16) (sym c.word-previous.ensures)
          (is.previous (λ none. some (c.word-previous.ensures ∙ none)))),
    )
