use Rattle.rlsf_tlsf.proofs.Opened.{IsAllocator-opened, view-opened}
use Rattle.rlsf_tlsf.proofs.tlsf.Tlsf.chunk_end.Goals as goal

pub returns : goal.returns
returns g c = rw (← view-opened c.self-inside.view_is c.self.view_is)
    (λ k i at. c.chunk_end.ensures g.row.FLLEN g.row.SLLEN _ _ k (IsAllocator-opened c.self-inside.view_is c.self.invariant).stands i at)
