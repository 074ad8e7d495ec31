-- A part's form in the code, in the model's terms.
use Rattle.tokens.specs.declared.form.Form.{Form}
use Rattle.tokens.specs.declared.form.Form.TheVariants.{Blank, Comment, Opening, Closing, Run, Stray}
use Rattle.model.specs.Words as words

abbrev pub view : Form → words.Form
view Blank = words.blank
view Comment = words.comment
view Opening = words.opening
view Closing = words.closing
view Run = words.run
view Stray = words.stray
