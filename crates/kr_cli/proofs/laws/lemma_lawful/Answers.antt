use Rattle.kr_cli.proofs.laws.lemma_lawful.Goals as goal

pub returns : goal.returns
returns g c = g.met.P.Protocol.lawful c.args.protocol.now
