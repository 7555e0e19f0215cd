-- What is written behind what is written.
use Rattle.std.proofs.Common.{◌≡◌, ℕ, List, [], ◌∷◌, ◌++◌, refl, sym, ap, ◌∙◌, append_assoc}
use Rattle.std.proofs.lemmas.List.{append-nil}
use Rattle.gdb_packets.specs.Framing.{framed}
use Rattle.gdb_answers.specs.Written.{EndsWith, Extends, HasPacket, frames}

pub behind_nothing : (out : List ℕ) → out ≡ out ++ []
behind_nothing out = sym (append-nil out)

pub extends_none : (out : List ℕ) → Extends out out
unfolding frames
extends_none out = record { payloads = []; whole = sym (append-nil out) }

pub extends_by : (old new payload : List ℕ) → new ≡ old ++ framed payload → Extends old new
unfolding frames
extends_by old new payload e = record { payloads = payload ∷ []; whole = e ∙ ap (λ (t : List ℕ). old ++ t) (sym (append-nil (framed payload))) }

frames-append : (a b : List (List ℕ)) → frames (a ++ b) ≡ frames a ++ frames b
unfolding frames
frames-append [] b = refl
frames-append (payload ∷ a) b = ap (λ (t : List ℕ). framed payload ++ t) (frames-append a b) ∙ sym (append_assoc (framed payload) (frames a) (frames b))

pub extends_more : (old mid new : List ℕ) → Extends old mid → Extends mid new → Extends old new
extends_more old mid new a b = record {
  payloads = a.payloads ++ b.payloads;
  whole = b.whole ∙ ap (λ (t : List ℕ). t ++ frames b.payloads) a.whole ∙ append_assoc old (frames a.payloads) (frames b.payloads) ∙ ap (λ (t : List ℕ). old ++ t) (sym (frames-append a.payloads b.payloads));
}

-- the packet of an answer behind those that show a text
pub ends_with : (payload old mid new : List ℕ) → Extends old mid → new ≡ mid ++ framed payload → EndsWith payload old new
ends_with payload old mid new shown e = record { before = mid; shown = shown; whole = e }

pub replies_by : (payload old new : List ℕ) → EndsWith payload old new → HasPacket old new
replies_by payload old new h = record { payload = payload; ends = h }

pub replies_alone : (old new payload : List ℕ) → new ≡ old ++ framed payload → HasPacket old new
replies_alone old new payload e = record { payload = payload; ends = ends_with payload old old new (extends_none old) e }
