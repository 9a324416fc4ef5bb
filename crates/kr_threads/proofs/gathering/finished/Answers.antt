use Rattle.std.proofs.Common.{sym, ◌∙◌, subst}
use Rattle.std.proofs.lemmas.List.Sorted.{All-permutation}
use Rattle.kr_model.specs.Map.{IsMap}
use Rattle.kr_records.specs.Histories.{events_with_replies}
use Rattle.kr_threads.specs.Told.{IsLeftOut, AreTold}
use Rattle.kr_threads.proofs.Gathered.{all_told_whole, none_listed}
use Rattle.kr_threads.proofs.Wholes.{ends_in_map}
use Rattle.kr_threads.proofs.gathering.finished.Goals as goal

pub returns-clause-worked : goal.returns-clause-worked
returns-clause-worked g c =
    let p = g.K.EngineName.table in
    let opening = g.K.EngineName.opening in
    let es = c.args.history.entries.items in
    let whole : AreTold p opening es c.args.left_out.items = all_told_whole p opening c.args.history.seats.items es c.args.shares.now c.args.left_out.items c.requires.closed.stand c.requires.told in
    record {
      shares = c.args.shares.now;
      closed = c.requires.closed;
      ended = sym c.as_slice.ensures ∙ none_listed c.as_slice.result.now (sym c.is_empty.ensures ∙ c.if-not-is_empty.false);
      told = All-permutation (IsLeftOut p opening (events_with_replies es)) c.args.left_out.items c.sort_unstable_by_key.new.self.items c.sort_unstable_by_key.ensures.permutation whole;
    }

pub returns-clause-is_map : goal.returns-clause-is_map
returns-clause-is_map g c =
    let closed = c.requires.closed in
    subst IsMap (sym closed.index) (ends_in_map g.K.EngineName.table c.requires.lawful g.K.EngineName.opening c.args.history.entries.items closed.state c.requires.is_map closed.run)
