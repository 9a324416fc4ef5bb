use Rattle.kr_explain_runs.proofs.Reaching.{led_where}
use Rattle.kr_explain_runs.proofs.leading.leads.Goals as goal

-- the run ends in the state
pub returns : goal.returns
returns g c = led_where (g.T.Protocol.table c.args.protocol.now) c.args.opening.now c.args.events.now c.args.state c.in_ok-ran.ran c.ends_in.result (c.is_map.ensures.0 c.if-not-is_map.false) c.in_ok-ran.ensures.ran c.ends_in.ensures.granted c.ends_in.ensures.alike c.ends_in.ensures.on_a c.ends_in.ensures.on_y
