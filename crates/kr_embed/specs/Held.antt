-- What a handle owns: the box of a session, or nothing at null.
use Rattle.std.specs.Prelude.{◌≡◌}
use base.Fml.{Fml, fex, ftrue}
use base.Stored.{Coded}
use denote.RawPtr.{Ptr, null_ptr}
use Rattle.std.specs.Box.Ownership.{box_owns}
use Rattle.std.specs.Global.{Global}
use Rattle.std.specs.Coded.{coded_option}
use Rattle.std.specs.declared.option.Option.{Option}
use Rattle.std.specs.declared.option.Option.TheVariants.{None, Some}
use Rattle.std_heap.specs.contracts.GlobalAllocator.TheImpl.{ghosts}
use Rattle.kr_embed.specs.contracts.session.Session.{the_row}

abbrev pub held : Global → Option the_row.Denot → Ptr → Fml
held alloc None p = fex (p ≡ null_ptr) (λ _. ftrue)
held alloc (Some x) p = box_owns (ghosts.dealloc_token alloc) the_row p x

abbrev pub session_coded : Coded (Option the_row.Denot)
session_coded = coded_option the_row.coded
