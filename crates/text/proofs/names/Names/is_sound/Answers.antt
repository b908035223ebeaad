use Rattle.std.proofs.Common.{rules, arith}
use Rattle.std.proofs.lemmas.Iterator.{cases_from_all, YieldsList-from_range}
use Rattle.text.proofs.NameLaws.{SoundName, sound_each, sound_as}
use Rattle.text.proofs.names.Names.is_sound.Goals as goal

pub returns : goal.returns
returns c =
    let text = c.args.self.now.text.now in
    let ends = c.args.self.now.ends.now in
    let n = c.count.result in
    let law = sound_each text ends n c.all.result c.count.ensures.ends
    (cases_from_all _ _ c.all.result (SoundName text ends) (λ k. SoundName text ends k → ⊥) c.all.ensures.ran (YieldsList-from_range 0 n n (search rules) (omega arith)) (λ k q h. search rules) (λ k q h. search rules)) in
    record { is = sound_as text ends c.all.result law; law = law }
