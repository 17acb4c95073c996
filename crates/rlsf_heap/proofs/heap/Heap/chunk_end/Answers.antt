use Rattle.rlsf_heap.proofs.heap.Heap.chunk_end.Goals as goal

pub returns : goal.returns
returns g c = rw (← c.self.view_is) (λ k i at. c.chunk_end.ensures g.row.FLLEN g.row.SLLEN _ _ k c.self.invariant.stands i at)
