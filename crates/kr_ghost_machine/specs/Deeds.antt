-- What an attempt does where it is granted.
use Rattle.std.specs.Prelude.{◌≡◌, ℕ, List, Option, Some, None}
use Rattle.kr_model.specs.declared.Name.{Name}
use Rattle.kr_model.specs.declared.Reply.{Reply}
use Rattle.kr_model.specs.declared.Reply.TheVariants as reply
use Rattle.kr_model.specs.Map.{Map, restore}
use Rattle.kr_model.specs.State.{Active, Scan}
use Rattle.kr_model.specs.Step.{Effect, effect, changed, scan_ended}
use Rattle.kr_ghost.specs.State.{ghosts_with}
use Rattle.kr_ghost.specs.Step.{looked}
use Rattle.kr_touch.specs.Attempts.{begun}
use Rattle.kr_touch.specs.Sights.{value_of_name}
use Rattle.kr_ghost_machine.specs.declared.deeds.Change.{Change}
use Rattle.kr_ghost_machine.specs.declared.deeds.Glance.{Glance}
use Rattle.kr_ghost_machine.specs.declared.deeds.Deed.{Deed}
use Rattle.kr_ghost_machine.specs.declared.deeds.Deed.TheVariants as deed

-- What a change answers, by the value that stood at its key, and by that which the key gets.
abbrev pub reply_by : Option ℕ → Option ℕ → Reply
reply_by None value = reply.Done
reply_by (Some w) None = reply.Deleted w
reply_by (Some w) (Some v) = reply.Updated w

abbrev pub change_reply : Change → Reply
change_reply c = reply_by c.before c.value

-- A change: its key gets the value, or none, and its transaction notes what stood there.
abbrev pub change_effect : Change → Map → Active → Effect
change_effect c m a = effect (change_reply c) (restore m c.key c.value) (changed a c.key c.before)

-- The scan that looks: one that begins, or the one in progress.
abbrev pub looking : Option (ℕ × ℕ) → Option Scan → Option Scan
looking None c = c
looking (Some r) c = Some (begun r.0 r.1)

-- A scan has looked and is c now: it goes on above the key that is told, and else it ends.
abbrev pub after_look : Map → Active → Scan → Option ℕ → Effect
after_look m a c None = scan_ended m a c.rows
after_look m a c (Some k) = effect (reply.Going k) m (record a { scan = Some c })

-- A scan's look at the name, where there is a scan.
abbrev pub look_effect : Map → Active → Option Scan → Name → Effect
look_effect m a None n = effect reply.None m a
look_effect m a (Some c) n = looked m a c n

abbrev pub glance_effect : Glance → Map → Active → Effect
glance_effect g m a = look_effect m a (looking g.begins a.scan) g.name

-- What it does to the map and to its transaction, who stands as a.
abbrev pub effect_of : Deed → Map → Active → Effect
effect_of (deed.Answer r) m a = effect r m a
effect_of (deed.Change c) m a = change_effect c m a
effect_of (deed.Look g) m a = glance_effect g m a

-- The ghosts that there are then: only a change makes one, or takes one away.
abbrev pub ghosts_after : Deed → List ℕ → List ℕ
ghosts_after (deed.Answer r) ghosts = ghosts
ghosts_after (deed.Change c) ghosts = ghosts_with ghosts c.key c.value
ghosts_after (deed.Look g) ghosts = ghosts

-- A scan's look has the value of its name.
abbrev pub IsSeen : Map → Glance → Type 0
IsSeen m g = g.value ≡ value_of_name m g.name

abbrev pub IsDeed : Map → Deed → Type 0
IsDeed m (deed.Answer r) = Unit {0}
IsDeed m (deed.Change c) = Unit {0}
IsDeed m (deed.Look g) = IsSeen m g
