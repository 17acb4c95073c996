use Rattle.std.proofs.Common.{◌≡◌, ℕ, ◌+◌, ◌≤◌, arith, rules, refl, length, sym, ◌∙◌, ap, subst}
use Rattle.rlsf_base.specs.Range.{LiesIn, range_at}
use Rattle.rlsf_base.specs.Space.{range_of}
use Rattle.rlsf_model.specs.Insert.{Appends, IsUntouched}
use Rattle.rlsf_model.proofs.Untouched.{untouched_empty}
use Rattle.rlsf_tlsf.proofs.Arrivals.{opened}
use Rattle.rlsf_test_tlsf.proofs.FirstChunk.{Appends-few, IsNext-behind, chunks-first}
use Rattle.rlsf_test_tlsf.proofs.OneChunk.{cut-one}
use Rattle.rlsf_test_tlsf.proofs.appends.appended.Goals as goal

-- so many bytes behind a pool
LiesIn-behind : (start len pool n : ℕ) → start ≡ 4096 → len ≡ 4096 → pool + n ≤ 4096 → LiesIn (range_at (4096 + pool) n) start len
LiesIn-behind start len pool n at long room = (omega arith, omega arith)

pub insert_free_block-requires : goal.insert_free_block-requires
insert_free_block-requires g c =
    let place = c.requires.place in
    let chunk = range_at 4096 c.args.case.pool in
    (search rules, ((omega (arith, place), omega (arith, place)), subst (λ s. IsUntouched s.chunks chunk) (sym c.requires.state) (untouched_empty chunk)))

pub append_free_block_ptr-less-requires : goal.append_free_block_ptr-less-requires
append_free_block_ptr-less-requires g c =
    let pool = c.args.case.pool in
    let few = c.args.case.few in
    let chunk = range_at 4096 pool in
    let place = c.requires.place in
    let one =
    chunks-first g.row.FLLEN 8 c.args.tlsf.now c.insert_free_block.new.self chunk c.requires.state refl (omega arith)
    (cut-one g.row.FLLEN pool c.requires.rows (omega arith) (omega arith)) c.insert_free_block.ensures.step in
    let still = c.allocate.ensures.frame.chunks ∙ one in
    let put = c.insert_free_block.ensures.frame.place in
    let kept = c.allocate.ensures.frame.place in
    let behind =
    LiesIn-behind c.allocate.new.self.memory.start (length c.allocate.new.self.memory.bytes) pool few (omega (arith, kept, put, place)) (omega (arith, kept, put, place))
    (omega arith) in
    (search rules, IsNext-behind (range_of c.allocate.new.self.memory) c.allocate.new.self.state chunk (range_at (4096 + pool) few) still refl behind)

pub append_free_block_ptr-more-requires : goal.append_free_block_ptr-more-requires
append_free_block_ptr-more-requires g c =
    let pool = c.args.case.pool in
    let few = range_at (4096 + pool) c.args.case.few in
    let many = c.args.case.many in
    let chunk = range_at 4096 pool in
    let place = c.requires.place in
    let one =
    chunks-first g.row.FLLEN 8 c.args.tlsf.now c.insert_free_block.new.self chunk c.requires.state refl (omega arith)
    (cut-one g.row.FLLEN pool c.requires.rows (omega arith) (omega arith)) c.insert_free_block.ensures.step in
    let still = c.allocate.ensures.frame.chunks ∙ one in
    let put = c.insert_free_block.ensures.frame.place in
    let kept = c.allocate.ensures.frame.place in
    let s = c.allocate.new.self in
    let t = c.append_free_block_ptr-less.new.self in
    let less = (opened g.row.FLLEN 8 s t (Appends g.row.FLLEN s.state few c.append_free_block_ptr-less.result) c.append_free_block_ptr-less.ensures.step).0 in
    let last = c.append_free_block_ptr-less.ensures.frame.place in
    let same =
    ap (λ q. q.chunks) (Appends-few g.row.FLLEN s.state few c.append_free_block_ptr-less.result t.state (omega (arith, c.requires.rows)) (omega arith) less) ∙ still in
    let further = LiesIn-behind t.memory.start (length t.memory.bytes) pool many (omega (arith, last, kept, put, place)) (omega (arith, last, kept, put, place)) (omega arith) in
    (search rules, IsNext-behind (range_of t.memory) t.state chunk (range_at (4096 + pool) many) same refl further)
