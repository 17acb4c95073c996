use Rattle.std.proofs.Common.{rules}
use Rattle.rlsf_tlsf.proofs.Arrivals.{IsRepresented-view, Stands-view}
use Rattle.rlsf_tlsf.proofs.tlsf.Tlsf.memory_ref.Goals as goal

pub returns : goal.returns
returns g c = record {
  memory = search rules;
  stands = Stands-view c.self.inside.memory c.self.inside.table c.self.inside.state.state c.args.self.now c.self.view_is c.self.invariant.stands c.self.invariant.whole;
  represented = IsRepresented-view c.self.inside.memory c.self.inside.table c.self.inside.state.state c.args.self.now c.self.view_is c.self.invariant.stands;
  valid = c.self.invariant.valid;
}
