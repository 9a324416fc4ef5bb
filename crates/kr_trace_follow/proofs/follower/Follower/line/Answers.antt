use Rattle.std.proofs.Common.{◌≡◌, ◌∙◌, ap, ap₂}
use Rattle.kr_model.specs.Protocol.{Protocol}
use Rattle.kr_trace_follow.specs.Followers.{shown}
use Rattle.kr_trace_follow.specs.Following.{Following, next}
use Rattle.kr_trace_follow.specs.Lines.{Line}
use Rattle.kr_trace_follow.proofs.follower.Follower.line.Goals as goal

pub returns-clause-followed : goal.returns-clause-followed
returns-clause-followed g c =
    let l : Line = record { number = c.args.number; event = c.args.event; observed = c.args.observed.now } in
    let inside = c.self.inside in
    let seen : shown inside.stepper.state inside.notes inside.waiting.items inside.queued inside.found ≡ c.args.self.now.following = ap (λ v. v.following) c.self.view_is in
    let table : g.P.Protocol.table inside.protocol.now ≡ g.P.Protocol.table c.args.self.now.protocol = ap (λ v. g.P.Protocol.table v.protocol) c.self.view_is in
    c.in_ok-follow.ensures.followed ∙ ap₂ (λ (p : Protocol) (f : Following). next p f l) table seen

pub returns-clause-found : goal.returns-clause-found
returns-clause-found g c =
    let l : Line = record { number = c.args.number; event = c.args.event; observed = c.args.observed.now } in
    let inside = c.self.inside in
    let seen : shown inside.stepper.state inside.notes inside.waiting.items inside.queued inside.found ≡ c.args.self.now.following = ap (λ v. v.following) c.self.view_is in
    let table : g.P.Protocol.table inside.protocol.now ≡ g.P.Protocol.table c.args.self.now.protocol = ap (λ v. g.P.Protocol.table v.protocol) c.self.view_is in
    c.in_ok-found.ensures ∙ ap (λ (f : Following). f.found) (c.in_ok-follow.ensures.followed ∙ ap₂ (λ (p : Protocol) (f : Following). next p f l) table seen)
