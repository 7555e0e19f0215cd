-- A session under GDB goes by turns: it answers the next item of what it heard, and where no item is whole it reads on.
use Rattle.std.specs.Prelude.{◌≡◌, ◌<◌, ◌≤◌, ◌+◌, ◌^◌, ℕ, Bool, true, false, List, [], ◌∷◌, ◌++◌, ◌⊎◌, Option, Some, None, Result, Ok, Err, length, take, nat_eq, if◌then◌else◌}
use Rattle.std.specs.String.{string_len}
use Rattle.evm_streams.specs.declared.source.Reading.{Reading}
use Rattle.evm_streams.specs.declared.source.Reading.TheVariants.{Bytes, Failed}
use Rattle.evm_streams.specs.declared.source.ReadFault.TheVariants as faults
use Rattle.evm_streams.specs.declared.sink.Writing.{Writing}
use Rattle.gdb_packets.specs.Items.{Item, item_at, item_seen}
use Rattle.gdb_packets.specs.declared.item.PacketItem.{PacketItem}
use Rattle.gdb_packets.specs.declared.item.PacketItem.TheVariants.{Packet}
use Rattle.gdb_answers.specs.Responding.{LosesItem, ServesItem}
use Rattle.gdb_answers.specs.Starting.{payload_boots, waits_for_boot}
use Rattle.gdb_answers.specs.declared.serving.Ended as ended
use Rattle.gdb_answers.specs.declared.serving.Ended.TheVariants.{Left, Saves, Boots, NoMemory, ReadFailed, WriteFailed}
use Rattle.gdb_answers.specs.declared.session.Booting.{Booting}
use Rattle.gdb_answers.specs.declared.session.Booting.TheVariants.{Idle, Asked}
use Rattle.gdb_answers.specs.declared.session.GdbSession.{GdbSession}

-- where a session stands between two turns: what it heard and has not answered, what was written last, and the sink
pub record Standing (W : Type 0) : Type 0 where
  pub session : GdbSession
  pub heard : List ℕ
  pub last : List ℕ
  pub sink : W

-- ---- items

-- the machine is to boot anew before the session answers an item
abbrev pub boots_before : GdbSession → PacketItem → List ℕ → Bool
boots_before s item payload = waits_for_boot s.booting item (payload_boots s.extended s.tape.image.entry payload s.tape.machine)

-- the items that stand at the front of some bytes, one behind the other, and what is behind them
abbrev pub ItemsIn : List ℕ → List Item → List ℕ → Type 0
ItemsIn bytes [] rest = bytes ≡ rest
ItemsIn bytes (item ∷ items) rest = (behind : List ℕ) × (item_at bytes ≡ Some (item, behind)) × ItemsIn behind items rest

module _ {W : Type 0} (takes : W → Writing → List ℕ → W → Type 0) where
  -- The next item is answered, unless GDB has left or the machine has to boot before. No boot is asked for any more.
  pub record Answers (item : Item) (old new : Standing W) : Type 0 where
    pub kind : PacketItem
    pub payload : List ℕ
    pub answered : GdbSession
    pub is : item ≡ item_seen kind payload
    pub next : item_at old.heard ≡ Some (item, new.heard)
    pub stays : old.session.over ≡ false
    pub ready : boots_before old.session kind payload ≡ false
    pub serves : ServesItem takes kind payload old.session answered old.last new.last old.sink new.sink
    pub idle : new.session ≡ record answered { booting = Idle }

  -- The next item is not answered: memory was refused before anything was written for it, or a write failed.
  pub record Loses (ended : ended.Ended) (at : Standing W) (session : GdbSession) (sink : W) : Type 0 where
    pub kind : PacketItem
    pub payload : List ℕ
    pub behind : List ℕ
    pub next : item_at at.heard ≡ Some (item_seen kind payload, behind)
    pub stays : at.session.over ≡ false
    pub ready : boots_before at.session kind payload ≡ false
    pub loses : LosesItem takes kind payload at.session session at.last at.sink sink ended

  -- what ends a session at the next item: memory was refused, and nothing is written, or a write failed
  abbrev pub Breaks : ended.Ended → Standing W → GdbSession → W → Type 0
  Breaks NoMemory at session sink = sink ≡ at.sink
  Breaks (WriteFailed fault) at session sink = Loses (WriteFailed fault) at session sink
  Breaks _ at session sink = ⊥

-- items are answered, one after the other
pub data Serves {W : Type 0} (takes : W → Writing → List ℕ → W → Type 0) : Standing W → List Item → Standing W → Type 0 where
  none : {s : Standing W} → Serves takes s [] s
  more : {s t u : Standing W} {items : List Item} {item : Item} → Serves takes s items t → Answers takes item t u → Serves takes s (items ++ item ∷ []) u

-- ---- pauses

-- why a session pauses: GDB has left, it is to be saved, or the machine is to boot anew
abbrev pub is_asked : Booting → Bool
is_asked Asked = true
is_asked _ = false

abbrev pub pause : GdbSession → Option ended.Ended
pause s = if s.over then Some Left else (if nat_eq (string_len s.save) 0 then (if is_asked s.booting then Some Boots else None) else Some Saves)

module _ {W : Type 0} where
  -- the next item is a packet that waits until the machine has booted anew
  pub record Waits (at end : Standing W) : Type 0 where
    pub payload : List ℕ
    pub behind : List ℕ
    pub next : item_at at.heard ≡ Some (item_seen Packet payload, behind)
    pub stays : at.session.over ≡ false
    pub waits : boots_before at.session Packet payload ≡ true
    pub becomes : end ≡ record at { session = record at.session { booting = Asked } }

  -- no item is to be answered now: GDB has left, none is whole, or the next waits
  abbrev pub Rests : Standing W → Standing W → Type 0
  Rests at end = (((at.session.over ≡ true) ⊎ (item_at at.heard ≡ None)) × (end ≡ at)) ⊎ Waits at end

  abbrev pub Pauses : ended.Ended → Standing W → Standing W → Type 0
  Pauses ended at end = Rests at end × (pause end.session ≡ Some ended)

module _ {W : Type 0} (takes : W → Writing → List ℕ → W → Type 0) where
  -- all items that were heard are answered, up to where the session rests; this many bytes are left
  pub record AnswersAll (count : ℕ) (start : Standing W) (session : GdbSession) (last : List ℕ) (sink : W) : Type 0 where
    pub items : List Item
    pub at : Standing W
    pub serves : Serves takes start items at
    pub rests : Rests at (record { session = session; heard = at.heard; last = last; sink = sink })
    pub left : count ≡ length at.heard

  -- some are, and then the session ends at one
  pub record BreaksOff (ended : ended.Ended) (start : Standing W) (session : GdbSession) (sink : W) : Type 0 where
    pub items : List Item
    pub at : Standing W
    pub serves : Serves takes start items at
    pub breaks : Breaks takes ended at session sink

-- ---- reading

-- what a read leaves of the bytes that were heard: some stand behind them, it gave none, or it failed
abbrev pub ReadsOn : {R : Type 0} → (R → Reading → List ℕ → R → Type 0) → Result Bool ended.Ended → R → List ℕ → R → List ℕ → Type 0
ReadsOn gives (Ok true) source heard source' heard' =
    (count : ℕ) × (part : List ℕ) × (0 < count) × (0 < length part) × gives source (Bytes count) part source' × (heard' ≡ heard ++ take count part)
ReadsOn gives (Ok false) source heard source' heard' = (part : List ℕ) × (0 < length part) × gives source (Bytes 0) part source' × (heard' ≡ heard)
ReadsOn gives (Err NoMemory) source heard source' heard' = Unit {0}
ReadsOn gives (Err (ReadFailed (faults.Failed cause))) source heard source' heard' = (part : List ℕ) × (0 < length part) × gives source (Failed cause) part source' × (heard' ≡ heard)
ReadsOn gives (Err _) source heard source' heard' = ⊥

module _ {R W : Type 0} (gives : R → Reading → List ℕ → R → Type 0) where
  -- no item is whole and nothing makes the session pause, so the source is read
  pub record Asks (reading : Reading) (part : List ℕ) (source : R) (at : Standing W) (source' : R) : Type 0 where
    pub none : item_at at.heard ≡ None
    pub goes_on : pause at.session ≡ None
    pub room : 0 < length part
    pub call : gives source reading part source'

  -- it gives some bytes, which stand behind what was heard
  pub record Hears (bytes : List ℕ) (source : R) (old : Standing W) (source' : R) (new : Standing W) : Type 0 where
    pub count : ℕ
    pub part : List ℕ
    pub call : Asks (Bytes count) part source old source'
    pub some : 0 < count
    pub gave : bytes ≡ take count part
    pub behind : new ≡ record old { heard = old.heard ++ bytes }

  -- it gives none, or fails
  abbrev pub HearsNone : Reading → R → Standing W → R → Standing W → Type 0
  HearsNone reading source at source' end = (part : List ℕ) × Asks reading part source at source' × (end ≡ at)

-- ---- a session

-- turns of a session, the items that it answered and the bytes that it read in them
pub data TakesTurns {R W : Type 0} (gives : R → Reading → List ℕ → R → Type 0) (takes : W → Writing → List ℕ → W → Type 0) : R → Standing W → List Item → List ℕ → R → Standing W → Type 0 where
  starts : {r : R} {s : Standing W} → TakesTurns gives takes r s [] [] r s
  answers : {r q : R} {s t u : Standing W} {items more : List Item} {read : List ℕ} → TakesTurns gives takes r s items read q t → Serves takes t more u → TakesTurns gives takes r s (items ++ more) read q u
  reads : {r q p : R} {s t u : Standing W} {items : List Item} {read bytes : List ℕ} → TakesTurns gives takes r s items read q t → Hears gives bytes q t p u → TakesTurns gives takes r s items (read ++ bytes) p u

module _ {R W : Type 0} (gives : R → Reading → List ℕ → R → Type 0) (takes : W → Writing → List ℕ → W → Type 0) where
  -- How a session ends: it pauses, no more comes, or a call failed. Only one that has read 2 ^ 64 - 1 bytes ends by itself.
  abbrev pub Ends : ended.Ended → List ℕ → R → Standing W → R → Standing W → Type 0
  Ends Left read source at source' end = (Pauses Left at end × (source' ≡ source)) ⊎ (HearsNone gives (Bytes 0) source at source' end ⊎ (2 ^ 64 ≤ length read + 1))
  Ends Saves read source at source' end = Pauses Saves at end × (source' ≡ source)
  Ends Boots read source at source' end = Pauses Boots at end × (source' ≡ source)
  Ends NoMemory read source at source' end = Breaks takes NoMemory at end.session end.sink
  Ends (ReadFailed (faults.Failed cause)) read source at source' end = HearsNone gives (Failed cause) source at source' end
  Ends (ReadFailed fault) read source at source' end = ⊥
  Ends (WriteFailed fault) read source at source' end = Breaks takes (WriteFailed fault) at end.session end.sink × (source' ≡ source)

  -- Items were answered, which are those of the bytes that were heard before and read, in their order; and then the session ended so.
  pub record Served (ended : ended.Ended) (source : R) (start : Standing W) (source' : R) (end : Standing W) : Type 0 where
    pub items : List Item
    pub read : List ℕ
    pub before : R
    pub at : Standing W
    pub goes : TakesTurns gives takes source start items read before at
    pub sent : ItemsIn (start.heard ++ read) items at.heard
    pub ends : Ends ended read before at source' end
