-- A session of either kind, as contracts see it.
use Rattle.kr_embed.specs.declared.session.Kind.{Kind}
use Rattle.kr_embed.specs.declared.session.Kind.TheVariants.{Gone, Leaving}
use Rattle.kr_embed.specs.Session.{Seen}

abbrev pub seen_of : Kind → Seen
seen_of (Gone s) = s
seen_of (Leaving s) = s
